-- Fields in the front of a command.
use Rattle.std.proofs.Common.{◌≡◌, ℕ, lit≤, List, take, ap, ◌∙◌}
use Rattle.plcr_loader.specs.declared.segment_command_64.TheConstants as segment_command_64
use Rattle.plcr_loader.specs.declared.symtab_command.TheConstants as symtab_command
use Rattle.plcr_loader.specs.declared.uuid_command.TheConstants as uuid_command
use Rattle.plcr_loader.specs.declared.segment_command_64.TheConstants.{VMADDR, VMSIZE, FILEOFF, NSECTS}
use Rattle.plcr_loader.specs.declared.symtab_command.TheConstants.{SYMOFF, NSYMS, STROFF, STRSIZE}
use Rattle.plcr_loader.specs.declared.uuid_command.TheConstants.{UUID}
use Rattle.plcr_loader.specs.Fields.{number, bytes_of}
use Rattle.plcr_loader.proofs.Fields.{number_front, bytes_front}
use Rattle.plcr_macho.specs.declared.kept.Segment.{Segment}
use Rattle.plcr_macho.specs.declared.kept.Tables.{Tables}
use Rattle.plcr_macho.specs.inner.Keeping.{segment_in, tables_in}

same_segment : {a b c d e f : ℕ} {g h : ℕ} → a ≡ b → c ≡ d → e ≡ f → g ≡ h
    → ◌≡◌ {A = Segment} (record { vmaddr = a; vmsize = c; fileoff = e; sections = g }) (record { vmaddr = b; vmsize = d; fileoff = f; sections = h })
same_segment p q r s = cc

-- what a segment says stands in its front
pub segment_front : (xs : List ℕ) → segment_in (take segment_command_64.LENGTH xs) ≡ segment_in xs
unfolding segment_in
segment_front xs =
    same_segment (number_front VMADDR segment_command_64.LENGTH xs (lit≤ tt)) (number_front VMSIZE segment_command_64.LENGTH xs (lit≤ tt)) (number_front FILEOFF segment_command_64.LENGTH xs (lit≤ tt)) (number_front NSECTS segment_command_64.LENGTH xs (lit≤ tt))

same_tables : {a b c d e f : ℕ} {g h : ℕ} → a ≡ b → c ≡ d → e ≡ f → g ≡ h
    → ◌≡◌ {A = Tables} (record { symoff = a; nsyms = c; stroff = e; strsize = g }) (record { symoff = b; nsyms = d; stroff = f; strsize = h })
same_tables p q r s = cc

-- what the tables of the symbols say stands in the front
pub tables_front : (xs : List ℕ) → tables_in (take symtab_command.LENGTH xs) ≡ tables_in xs
unfolding tables_in
tables_front xs =
    same_tables (number_front SYMOFF symtab_command.LENGTH xs (lit≤ tt)) (number_front NSYMS symtab_command.LENGTH xs (lit≤ tt)) (number_front STROFF symtab_command.LENGTH xs (lit≤ tt)) (number_front STRSIZE symtab_command.LENGTH xs (lit≤ tt))

-- how many sections a segment says that it has
pub sections_are : (s : Segment) (xs : List ℕ) → s ≡ segment_in xs → s.sections ≡ number NSECTS xs
unfolding segment_in
sections_are s xs h = ap (λ (t : Segment). t.sections) h

-- the uuid stands in the front
pub uuid_front : (xs front u : List ℕ) → front ≡ take uuid_command.LENGTH xs → u ≡ bytes_of UUID front → u ≡ bytes_of UUID xs
uuid_front xs front u is_front is = is ∙ ap (bytes_of UUID) is_front ∙ bytes_front UUID uuid_command.LENGTH xs (lit≤ tt)
