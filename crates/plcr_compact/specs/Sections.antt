-- The section `__unwind_info` of an image (compact_unwind_encoding.h): a header, an index of
-- functions by their offsets, and pages with their encodings. Places are counted from the section's
-- start.
use Rattle.std.specs.Prelude.{ℕ, ◌+◌, ◌-◌, ◌*◌, ◌/◌, ◌^◌, ◌==◌, nat_lt, false, not, if◌then◌else◌, List, length, take, slice_get, Option, Some, None, ok_or, Ok, Err}
use Rattle.std.specs.Option.{option_map_or}
use Rattle.std.specs.Int.{w32, trailing_zeros}
use Rattle.std.specs.Int.Bits.{bit_and}
use Rattle.plcr_base.specs.Chains.{◌>>=◌}
use Rattle.plcr_leb128.specs.Cells.{Source, number_in, piece_bytes}
use Rattle.plcr_memory.specs.Regions.{Contents}
use Rattle.plcr_macho.specs.declared.image.Image.{Image}
use Rattle.plcr_macho.specs.declared.image.Part.{Part}
use Rattle.plcr_compact.specs.declared.bad.TheConstants.{MISSING_WORD, NO_ENCODING, NO_ENTRY, NO_UNWIND_INFO, OTHER_PAGE, OTHER_VERSION}
use Rattle.plcr_compact.specs.declared.layout.TheConstants.{COMMON_ENCODINGS_ARRAY_COUNT, COMMON_ENCODINGS_ARRAY_SECTION_OFFSET, COMPRESSED_ENTRY, ENCODING, ENCODINGS_COUNT, ENCODINGS_PAGE_OFFSET, ENCODING_LENGTH, ENTRY_COUNT, ENTRY_PAGE_OFFSET, FUNCTION_OFFSET, INDEX_COUNT, INDEX_ENTRY, INDEX_SECTION_OFFSET, KIND, LSDA_INDEX_ARRAY_SECTION_OFFSET, MOST_OFFSET, PERSONALITY_ARRAY_COUNT, PERSONALITY_ARRAY_SECTION_OFFSET, REGULAR_ENTRY, SECOND_LEVEL_PAGES_SECTION_OFFSET, SECTION_HEADER, UNWIND_INFO_COMPRESSED_ENTRY_ENCODING_INDEX, UNWIND_INFO_COMPRESSED_ENTRY_FUNC_OFFSET, UNWIND_SECOND_LEVEL_COMPRESSED, UNWIND_SECOND_LEVEL_REGULAR, UNWIND_SECTION_VERSION, VERSION}
use Rattle.plcr_compact.specs.declared.section.Entry.{Entry}
use Rattle.plcr_compact.specs.declared.section.Found.{Found}
use Rattle.plcr_compact.specs.declared.section.PageHeader.{PageHeader}
use Rattle.plcr_compact.specs.declared.section.PageHeader.TheVariants.{Regular, Compressed}
use Rattle.plcr_compact.specs.declared.section.SectionHeader.{SectionHeader}
use Rattle.plcr_compact.specs.declared.section.Table.{Table}
use Rattle.plcr_compact.specs.Tables.{Answer, chosen, entries_at, lawful}

-- the bits of a word under a mask, as a number
unfoldable pub field : ℕ → ℕ → ℕ
field word mask = bit_and word mask / 2 ^ trailing_zeros w32 mask

-- a word of the section, and a number of 2 bytes; each has to lie in the section and be mapped
unfoldable pub word : Source → ℕ → Answer ℕ
word section place = ok_or (number_in 4 section place) MISSING_WORD

unfoldable pub half : Source → ℕ → Answer ℕ
half section place = ok_or (number_in 2 section place) MISSING_WORD

abbrev pub table : ℕ → ℕ → Table
table at count = record { at = at; count = count }

-- the header; all of its words are read before its version is judged
unfoldable pub header_in : Source → Answer SectionHeader
header_in section =
    word section VERSION >>= λ version.
    word section COMMON_ENCODINGS_ARRAY_SECTION_OFFSET >>= λ common_at.
    word section COMMON_ENCODINGS_ARRAY_COUNT >>= λ common.
    word section PERSONALITY_ARRAY_SECTION_OFFSET >>= λ personality_at.
    word section PERSONALITY_ARRAY_COUNT >>= λ personality.
    word section INDEX_SECTION_OFFSET >>= λ index_at.
    word section INDEX_COUNT >>= λ index.
    if version == UNWIND_SECTION_VERSION
    then Ok (record { common = table common_at common; index = table index_at index })
    else Err OTHER_VERSION

-- an entry of the index: the offset of a function, and where its page stands
unfoldable pub index_entry : Source → ℕ → Answer Entry
index_entry section place =
    word section (place + FUNCTION_OFFSET) >>= λ function.
    word section (place + SECOND_LEVEL_PAGES_SECTION_OFFSET) >>= λ page.
    word section (place + LSDA_INDEX_ARRAY_SECTION_OFFSET) >>= λ lsda.
    Ok (record { function = function; value = page })

-- an entry of a regular page: the offset of a function, and its encoding
unfoldable pub regular_entry : Source → ℕ → Answer Entry
regular_entry section place =
    word section (place + FUNCTION_OFFSET) >>= λ function.
    word section (place + ENCODING) >>= λ encoding.
    Ok (record { function = function; value = encoding })

-- an entry of a compressed page: the offset of a function, told from that of the page's entry in
-- the index, and the number of its encoding
unfoldable pub compressed_entry : ℕ → Source → ℕ → Answer Entry
compressed_entry first section place =
    word section place >>= λ entry.
    Ok (record {
      function = first + field entry UNWIND_INFO_COMPRESSED_ENTRY_FUNC_OFFSET;
      value = field entry UNWIND_INFO_COMPRESSED_ENTRY_ENCODING_INDEX;
    })

-- the entries of the index
unfoldable pub index_entries : Source → SectionHeader → Answer (List Entry)
index_entries section header =
    entries_at (index_entry section) INDEX_ENTRY header.index.count header.index.at

-- a section whose index can be searched
pub record Index : Type 0 where
  pub header : SectionHeader
  pub entries : List Entry

unfoldable pub index_in : Source → Answer Index
index_in section =
    header_in section >>= λ header.
    index_entries section header >>= lawful >>= λ es.
    Ok (record { header = header; entries = es })

-- the last entry is the sentinel: no function of the image begins at its offset or behind it
abbrev pub sentinel : List Entry → Option Entry
sentinel es = slice_get es (length es - 1)

abbrev pub before_sentinel : List Entry → List Entry
before_sentinel es = take (length es - 1) es

-- the entry of the index for an offset, which has a page: the one chosen of those before the
-- sentinel, which has to lie above the offset
unfoldable pub page_of : ℕ → List Entry → Answer Entry
page_of offset es =
    if not (option_map_or (λ e. nat_lt offset e.function) (sentinel es) false) then Err NO_ENTRY
    else
    (ok_or (chosen offset (before_sentinel es)) NO_ENTRY >>= λ e. if e.value == 0 then Err NO_ENTRY
    else Ok e)

-- the rest of the head of a page of either kind
unfoldable pub regular_header : Source → ℕ → Answer PageHeader
regular_header section page =
    half section (page + ENTRY_PAGE_OFFSET) >>= λ entries_at.
    half section (page + ENTRY_COUNT) >>= λ entries.
    Ok (Regular (table (page + entries_at) entries))

unfoldable pub compressed_header : Source → ℕ → Answer PageHeader
compressed_header section page =
    half section (page + ENTRY_PAGE_OFFSET) >>= λ entries_at.
    half section (page + ENTRY_COUNT) >>= λ entries.
    half section (page + ENCODINGS_PAGE_OFFSET) >>= λ encodings_at.
    half section (page + ENCODINGS_COUNT) >>= λ encodings.
    Ok (Compressed (table (page + entries_at) entries) (table (page + encodings_at) encodings))

-- the head of the page at a place; its kind is judged before the rest is read
unfoldable pub page_header_in : Source → ℕ → Answer PageHeader
page_header_in section page =
    word section (page + KIND) >>= λ kind.
    if kind == UNWIND_SECOND_LEVEL_REGULAR then regular_header section page else
    if kind == UNWIND_SECOND_LEVEL_COMPRESSED then compressed_header section page else
    Err OTHER_PAGE

-- the entries of a page, whose entry in the index has this offset
unfoldable pub page_entries : Source → ℕ → PageHeader → Answer (List Entry)
page_entries section first (Regular entries) =
    entries_at (regular_entry section) REGULAR_ENTRY entries.count entries.at
page_entries section first (Compressed entries encodings) =
    entries_at (compressed_entry first section) COMPRESSED_ENTRY entries.count entries.at

-- a page that can be searched
pub record Page : Type 0 where
  pub header : PageHeader
  pub entries : List Entry

-- the page that an entry of the index leads to
unfoldable pub page_in : Source → Entry → Answer Page
page_in section entry =
    page_header_in section entry.value >>= λ header.
    page_entries section entry.function header >>= lawful >>= λ es.
    Ok (record { header = header; entries = es })

-- the encoding with a number in a list of encodings
abbrev pub encoding_at : Source → Table → ℕ → Answer ℕ
encoding_at section encodings number = word section (encodings.at + ENCODING_LENGTH * number)

-- the encoding with a number: first those that all pages share, then the page's own
unfoldable pub encoding_of : Source → Table → Table → ℕ → Answer ℕ
encoding_of section common own number =
    if nat_lt number common.count then encoding_at section common number else
    if nat_lt (number - common.count) own.count then encoding_at section own (number - common.count)
    else
    Err NO_ENCODING

-- the encoding of a page's entry
unfoldable pub encoding_in : Source → Table → PageHeader → ℕ → Answer ℕ
encoding_in section common (Regular entries) value = Ok value
encoding_in section common (Compressed entries encodings) value =
    encoding_of section common encodings value

-- the entry of a page for an offset, with the word of its encoding
unfoldable pub entry_of : Source → Table → ℕ → Page → Answer Found
entry_of section common offset page =
    ok_or (chosen offset page.entries) NO_ENTRY >>= λ e.
    encoding_in section common page.header e.value >>= λ encoding.
    Ok (record { function = e.function; encoding = encoding })

-- what a section says of an offset
unfoldable pub found_in : Source → ℕ → Answer Found
found_in section offset =
    index_in section >>= λ index.
    page_of offset index.entries >>= λ entry.
    page_in section entry >>= λ page.
    entry_of section index.header.common offset page

-- where the section lies, with room for its header
unfoldable pub section_of : Option Part → Answer Part
section_of None = Err NO_UNWIND_INFO
section_of (Some part) = if nat_lt part.size SECTION_HEADER then Err NO_UNWIND_INFO else Ok part

-- the words of an image's section
abbrev pub section_at : Contents → Part → Source
section_at memory part = piece_bytes memory part.at part.size

-- what an image's section says of the function that has an address so far from the image's header
unfoldable pub found_at : Contents → Image → ℕ → Answer Found
found_at memory image offset =
    section_of image.unwind >>= λ part.
    if nat_lt MOST_OFFSET offset then Err NO_ENTRY else found_in (section_at memory part) offset
