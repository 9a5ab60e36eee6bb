-- The tables of a section, as they are searched.
use Rattle.std.specs.Prelude.{ℕ, ◌+◌, ◌^◌, ◌<◌, List}
use Rattle.plcr_base.specs.Chains.{◌>>=◌, result_map}
use Rattle.plcr_leb128.specs.Cells.{Source}
use Rattle.plcr_compact.specs.declared.entry_kind.EntryKind.{EntryKind}
use Rattle.plcr_compact.specs.declared.entry_kind.EntryKind.TheVariants.{Index, Regular, Compressed}
use Rattle.plcr_compact.specs.declared.layout.TheConstants.{COMPRESSED_ENTRY, INDEX_ENTRY, REGULAR_ENTRY}
use Rattle.plcr_compact.specs.declared.section.Entry.{Entry}
use Rattle.plcr_compact.specs.declared.section.PageHeader.{PageHeader}
use Rattle.plcr_compact.specs.declared.section.PageHeader.TheVariants as pages
use Rattle.plcr_compact.specs.declared.section.Found.{Found}
use Rattle.plcr_compact.specs.declared.section.SectionHeader.{SectionHeader}
use Rattle.plcr_compact.specs.declared.section.Table.{Table}
use Rattle.plcr_compact.specs.Sections.{compressed_entry, entry_of, index_entry, index_in, page_in, page_of, regular_entry}
use Rattle.plcr_compact.specs.Tables.{Answer, entries_at, lawful}

-- an entry of a kind
unfoldable pub entry_by : EntryKind → Source → ℕ → Answer Entry
entry_by Index = index_entry
entry_by Regular = regular_entry
entry_by (Compressed first) = compressed_entry first

unfoldable pub size_by : EntryKind → ℕ
size_by Index = INDEX_ENTRY
size_by Regular = REGULAR_ENTRY
size_by (Compressed first) = COMPRESSED_ENTRY

-- an entry of the index whose bytes are zero
abbrev pub empty : Entry
empty = record { function = 0; value = 0 }

-- the entries of a table
unfoldable pub entries_in : Source → EntryKind → Table → Answer (List Entry)
entries_in section kind table =
    entries_at (entry_by kind section) (size_by kind) table.count table.at

-- the same where they don't fall
abbrev pub lawful_in : Source → EntryKind → Table → Answer (List Entry)
lawful_in section kind table = entries_in section kind table >>= lawful

-- a table begins where the numbers of a section can tell
abbrev pub IsNear : Table → Type 0
IsNear table = table.at < 2 ^ 33

-- from where the offsets of a kind of entries are told
abbrev pub first_by : EntryKind → ℕ
first_by Index = 0
first_by Regular = 0
first_by (Compressed first) = first

-- that is an offset of the index
abbrev pub IsTold : EntryKind → Type 0
IsTold kind = first_by kind < 2 ^ 32

-- an entry of a kind has no greater offset than its words can tell
abbrev pub IsSmall : EntryKind → Entry → Type 0
IsSmall kind e = e.function < first_by kind + 2 ^ 32

-- what the entries of a page are, and where they stand
abbrev pub kind_in : ℕ → PageHeader → EntryKind
kind_in first (pages.Regular entries) = Regular
kind_in first (pages.Compressed entries encodings) = Compressed first

abbrev pub table_in : PageHeader → Table
table_in (pages.Regular entries) = entries
table_in (pages.Compressed entries encodings) = entries

-- the tables of a page do
abbrev pub IsNearPage : PageHeader → Type 0
IsNearPage (pages.Regular entries) = IsNear entries
IsNearPage (pages.Compressed entries encodings) = IsNear entries × IsNear encodings

-- the header of a section whose index can be searched
unfoldable pub index_header : Source → Answer SectionHeader
index_header section = result_map (λ index. index.header) (index_in section)

-- the entry of the index for an offset
unfoldable pub page_at : Source → ℕ → Answer Entry
page_at section offset = index_in section >>= λ index. page_of offset index.entries

-- the head of the page that an entry of the index leads to, if the page can be searched
unfoldable pub page_header : Source → Entry → Answer PageHeader
page_header section entry = result_map (λ page. page.header) (page_in section entry)

-- the entry of that page for an offset
unfoldable pub found_by : Source → Table → Entry → ℕ → Answer Found
found_by section common entry offset = page_in section entry >>= entry_of section common offset
