-- The words of lines as they are written.
use Rattle.std.specs.Prelude.{ℕ, List, decimal}
use Rattle.std.specs.Fmt.{signed_decimal}
use Rattle.plcr_decode.specs.Text.{shown, bytes_text, address}
use Rattle.plcr_decode.specs.declared.ink.Word.{Word}
use Rattle.plcr_decode.specs.declared.ink.Word.TheVariants.{Plain, Text, Bytes, Decimal, Signed, Address}

-- a word
abbrev pub word_text : Word → List ℕ
word_text (Plain text) = text.now
word_text (Text text) = shown text.now
word_text (Bytes bytes) = bytes_text bytes.now
word_text (Decimal n) = decimal n
word_text (Signed z) = signed_decimal z
word_text (Address n) = address n
