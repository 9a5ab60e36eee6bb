-- How a section is searched, step by step.
use Rattle.std.proofs.Common.{◌≡◌, ◌≤◌, ◌<◌, ℕ, ◌-◌, true, false, List, length, take, Option, Some, None, Ok, Err, refl, sym, ap, subst, ◌∙◌, arith}
use Rattle.std.specs.Prelude.{◌≢◌, ◌==◌, slice_get, nat_lt, IsOk}
use Rattle.std.proofs.lemmas.Bool.{lt-ltb, le-ltb}
use Rattle.std.proofs.lemmas.List.{take_all}
use Rattle.std.proofs.lemmas.Option.{slice_get_past}
use Rattle.plcr_base.specs.Chains.{◌>>=◌, result_map}
use Rattle.plcr_base.proofs.Chained.{map_ok, map_err}
use Rattle.plcr_base.proofs.Plain.{not_equal}
use Rattle.plcr_leb128.specs.Cells.{Source}
use Rattle.plcr_compact.specs.declared.entry_kind.EntryKind.{EntryKind}
use Rattle.plcr_compact.specs.declared.entry_kind.EntryKind.TheVariants as kinds
use Rattle.plcr_compact.specs.declared.bad.TheConstants.{NO_ENTRY}
use Rattle.plcr_compact.specs.declared.section.Entry.{Entry}
use Rattle.plcr_compact.specs.declared.section.PageHeader.{PageHeader}
use Rattle.plcr_compact.specs.declared.section.PageHeader.TheVariants as pages
use Rattle.plcr_compact.specs.declared.section.SectionHeader.{SectionHeader}
use Rattle.plcr_compact.specs.declared.section.Table.{Table}
use Rattle.plcr_compact.specs.Sections.{Index, Page, before_sentinel, encoding_in, entry_of, found_in, header_in, index_entries, index_in, page_entries, page_header_in, page_in, page_of, sentinel}
use Rattle.plcr_compact.specs.Tables.{Answer, chosen, lawful}
use Rattle.plcr_compact.specs.inner.Searches.{entries_in, entry_by, found_by, index_header, kind_in, lawful_in, page_at, page_header, size_by, table_in}
use Rattle.plcr_compact.proofs.Searched.{lawful_count}

-- the index is a table, and so are the entries of a page
index_table : (section : Source) (header : SectionHeader) → lawful_in section kinds.Index header.index ≡ (index_entries section header >>= lawful)
unfolding index_entries entries_in entry_by size_by
index_table section header = refl

page_table : (section : Source) (first : ℕ) (header : PageHeader) → lawful_in section (kind_in first header) (table_in header) ≡ (page_entries section first header >>= lawful)
unfolding page_entries entries_in entry_by size_by
page_table section first (pages.Regular entries) = refl
page_table section first (pages.Compressed entries encodings) = refl

-- the index
pub index_checked : (section : Source) (header : SectionHeader) → header_in section ≡ Ok header → result_map (λ _. tt {0}) (lawful_in section kinds.Index header.index) ≡ Ok (tt {0})
    → index_header section ≡ Ok header
unfolding index_in index_header
index_checked section header read check =
    let m = map_ok (λ _. tt {0}) (lawful_in section kinds.Index header.index) (tt {0}) check in
    rw (read, ← index_table section header, m.1) refl

pub index_unchecked : (section : Source) (header : SectionHeader) (bad : ℕ) → header_in section ≡ Ok header → result_map (λ _. tt {0}) (lawful_in section kinds.Index header.index) ≡ Err bad
    → index_header section ≡ Err bad
unfolding index_in index_header
index_unchecked section header bad read check =
    let m = map_err (λ _. tt {0}) (lawful_in section kinds.Index header.index) bad check in
    rw (read, ← index_table section header, m) refl

pub index_unread : (section : Source) (bad : ℕ) → header_in section ≡ Err bad → index_header section ≡ Err bad
unfolding index_in index_header
index_unread section bad read = rw read refl

-- an index that was read
index_parts : (r : Answer SectionHeader) (rest : SectionHeader → Answer (List Entry)) (index : Index)
    → (r >>= λ header. rest header >>= λ es. let i : Answer Index = Ok (record { header = header; entries = es }) in i) ≡ Ok index
    → rest index.header ≡ Ok index.entries
index_parts (Err b) rest index h = let e = h in cc
index_parts (Ok header) rest index h = by_rest (rest header) refl h
  where
    by_rest : (es : Answer (List Entry)) → rest header ≡ es → (es >>= λ fs. let i : Answer Index = Ok (record { header = header; entries = fs }) in i) ≡ Ok index → rest index.header ≡ Ok index.entries
    by_rest (Err b) is h = let e = h in cc
    by_rest (Ok es) is h =
        let same : record { header = header; entries = es } ≡ index = cc in
        subst (λ (i : Index). rest i.header ≡ Ok i.entries) same is

pub record Opened (section : Source) (header : SectionHeader) : Type 0 where
  pub entries : List Entry
  pub whole : index_in section ≡ Ok (record { header = header; entries = entries })
  pub lawful : lawful_in section kinds.Index header.index ≡ Ok entries
  pub count : length entries ≡ header.index.count

pub index_opened : (section : Source) (header : SectionHeader) → index_header section ≡ Ok header → Opened section header
unfolding index_in index_header
index_opened section header h =
    let m = map_ok (λ (i : Index). i.header) (index_in section) header h in
    let rest : lawful_in section kinds.Index m.0.header.index ≡ Ok m.0.entries =
    index_table section m.0.header ∙ index_parts (header_in section) (λ (s : SectionHeader). index_entries section s >>= lawful) m.0 m.1 in
    let there : lawful_in section kinds.Index header.index ≡ Ok m.0.entries = subst (λ (s : SectionHeader). lawful_in section kinds.Index s.index ≡ Ok m.0.entries) m.2 rest in
    record {
      entries = m.0.entries;
      whole = subst (λ (s : SectionHeader). index_in section ≡ Ok (record { header = s; entries = m.0.entries })) m.2 m.1;
      lawful = there;
      count = lawful_count section kinds.Index header.index m.0.entries there;
    }

pub index_lawful : (section : Source) (header : SectionHeader) → index_header section ≡ Ok header → IsOk (lawful_in section kinds.Index header.index)
index_lawful section header h =
    let o = index_opened section header h in
    rw o.lawful refl

pub page_whole : (section : Source) (header : SectionHeader) (offset : ℕ) (o : Opened section header) → page_at section offset ≡ page_of offset o.entries
unfolding page_at
page_whole section header offset o = rw o.whole refl

-- the choice in the index
pub page_past : (offset : ℕ) (es : List Entry) → sentinel es ≡ None → page_of offset es ≡ Err NO_ENTRY
unfolding page_of
page_past offset es h = rw h refl

pub page_low : (offset : ℕ) (es : List Entry) (s : Entry) → sentinel es ≡ Some s → s.function ≤ offset → page_of offset es ≡ Err NO_ENTRY
unfolding page_of
page_low offset es s h le = rw (h, le-ltb offset s.function le) refl

pub page_none : (offset : ℕ) (es : List Entry) (s : Entry) → sentinel es ≡ Some s → offset < s.function → chosen offset (before_sentinel es) ≡ None → page_of offset es ≡ Err NO_ENTRY
unfolding page_of
page_none offset es s h lt none = rw (h, lt-ltb offset s.function lt, none) refl

pub page_zero : (offset : ℕ) (es : List Entry) (s e : Entry) → sentinel es ≡ Some s → offset < s.function → chosen offset (before_sentinel es) ≡ Some e → e.value ≡ 0
    → page_of offset es ≡ Err NO_ENTRY
unfolding page_of
page_zero offset es s e h lt some none = rw (h, lt-ltb offset s.function lt, some, none) refl

pub page_some : (offset : ℕ) (es : List Entry) (s e : Entry) → sentinel es ≡ Some s → offset < s.function → chosen offset (before_sentinel es) ≡ Some e → e.value ≢ 0
    → page_of offset es ≡ Ok e
unfolding page_of
page_some offset es s e h lt some leads = rw (h, lt-ltb offset s.function lt, some, not_equal e.value 0 leads) refl

-- a page
pub page_checked : (section : Source) (entry : Entry) (header : PageHeader) → page_header_in section entry.value ≡ Ok header
    → result_map (λ _. tt {0}) (lawful_in section (kind_in entry.function header) (table_in header)) ≡ Ok (tt {0}) → page_header section entry ≡ Ok header
unfolding page_in page_header
page_checked section entry header read check =
    let m = map_ok (λ _. tt {0}) (lawful_in section (kind_in entry.function header) (table_in header)) (tt {0}) check in
    rw (read, ← page_table section entry.function header, m.1) refl

pub page_unchecked : (section : Source) (entry : Entry) (header : PageHeader) (bad : ℕ) → page_header_in section entry.value ≡ Ok header
    → result_map (λ _. tt {0}) (lawful_in section (kind_in entry.function header) (table_in header)) ≡ Err bad → page_header section entry ≡ Err bad
unfolding page_in page_header
page_unchecked section entry header bad read check =
    let m = map_err (λ _. tt {0}) (lawful_in section (kind_in entry.function header) (table_in header)) bad check in
    rw (read, ← page_table section entry.function header, m) refl

pub page_unread : (section : Source) (entry : Entry) (bad : ℕ) → page_header_in section entry.value ≡ Err bad → page_header section entry ≡ Err bad
unfolding page_in page_header
page_unread section entry bad read = rw read refl

page_parts : (r : Answer PageHeader) (rest : PageHeader → Answer (List Entry)) (page : Page)
    → (r >>= λ header. rest header >>= λ es. let p : Answer Page = Ok (record { header = header; entries = es }) in p) ≡ Ok page
    → rest page.header ≡ Ok page.entries
page_parts (Err b) rest page h = let e = h in cc
page_parts (Ok header) rest page h = by_rest (rest header) refl h
  where
    by_rest : (es : Answer (List Entry)) → rest header ≡ es → (es >>= λ fs. let p : Answer Page = Ok (record { header = header; entries = fs }) in p) ≡ Ok page → rest page.header ≡ Ok page.entries
    by_rest (Err b) is h = let e = h in cc
    by_rest (Ok es) is h =
        let same : record { header = header; entries = es } ≡ page = cc in
        subst (λ (p : Page). rest p.header ≡ Ok p.entries) same is

pub record OpenedPage (section : Source) (entry : Entry) (header : PageHeader) : Type 0 where
  pub entries : List Entry
  pub whole : page_in section entry ≡ Ok (record { header = header; entries = entries })
  pub lawful : lawful_in section (kind_in entry.function header) (table_in header) ≡ Ok entries
  pub count : take (table_in header).count entries ≡ entries

pub page_opened : (section : Source) (entry : Entry) (header : PageHeader) → page_header section entry ≡ Ok header → OpenedPage section entry header
unfolding page_in page_header
page_opened section entry header h =
    let m = map_ok (λ (p : Page). p.header) (page_in section entry) header h in
    let rest : lawful_in section (kind_in entry.function m.0.header) (table_in m.0.header) ≡ Ok m.0.entries =
    page_table section entry.function m.0.header ∙ page_parts (page_header_in section entry.value) (λ (s : PageHeader). page_entries section entry.function s >>= lawful) m.0 m.1 in
    let there : lawful_in section (kind_in entry.function header) (table_in header) ≡ Ok m.0.entries =
    subst (λ (s : PageHeader). lawful_in section (kind_in entry.function s) (table_in s) ≡ Ok m.0.entries) m.2 rest in
    let many = lawful_count section (kind_in entry.function header) (table_in header) m.0.entries there in
    record {
      entries = m.0.entries;
      whole = subst (λ (s : PageHeader). page_in section entry ≡ Ok (record { header = s; entries = m.0.entries })) m.2 m.1;
      lawful = there;
      count = take_all (table_in header).count m.0.entries (omega arith);
    }

pub page_lawful : (section : Source) (entry : Entry) (header : PageHeader) → page_header section entry ≡ Ok header
    → IsOk (lawful_in section (kind_in entry.function header) (table_in header))
page_lawful section entry header h =
    let o = page_opened section entry header h in
    rw o.lawful refl

-- the choice in a page
pub found_none : (section : Source) (common : Table) (entry : Entry) (header : PageHeader) (offset : ℕ) (o : OpenedPage section entry header)
    → None ≡ chosen offset (take (table_in header).count o.entries) → found_by section common entry offset ≡ Err NO_ENTRY
unfolding found_by entry_of
found_none section common entry header offset o none = let is = ap (chosen offset) (sym o.count) ∙ sym none in rw (o.whole, is) refl

pub found_bad : (section : Source) (common : Table) (entry : Entry) (header : PageHeader) (offset : ℕ) (o : OpenedPage section entry header) (e : Entry) (bad : ℕ)
    → Some e ≡ chosen offset (take (table_in header).count o.entries) → encoding_in section common header e.value ≡ Err bad → found_by section common entry offset ≡ Err bad
unfolding found_by entry_of
found_bad section common entry header offset o e bad some encoding = let is = ap (chosen offset) (sym o.count) ∙ sym some in rw (o.whole, is, encoding) refl

pub found_some : (section : Source) (common : Table) (entry : Entry) (header : PageHeader) (offset : ℕ) (o : OpenedPage section entry header) (e : Entry) (encoding : ℕ)
    → Some e ≡ chosen offset (take (table_in header).count o.entries) → encoding_in section common header e.value ≡ Ok encoding
    → found_by section common entry offset ≡ Ok (record { function = e.function; encoding = encoding })
unfolding found_by entry_of
found_some section common entry header offset o e encoding some is_encoding = let is = ap (chosen offset) (sym o.count) ∙ sym some in rw (o.whole, is, is_encoding) refl

-- the whole search
pub search_unread : (section : Source) (offset bad : ℕ) → index_header section ≡ Err bad → found_in section offset ≡ Err bad
unfolding found_in index_header
search_unread section offset bad h = let m = map_err (λ (i : Index). i.header) (index_in section) bad h in rw m refl

pub search_no_page : (section : Source) (offset : ℕ) (header : SectionHeader) (bad : ℕ) → index_header section ≡ Ok header → page_at section offset ≡ Err bad → found_in section offset ≡ Err bad
unfolding found_in
search_no_page section offset header bad h page =
    let o = index_opened section header h in
    let is : page_of offset o.entries ≡ Err bad = sym (page_whole section header offset o) ∙ page in
    rw (o.whole, is) refl

pub search_bad_page : (section : Source) (offset : ℕ) (header : SectionHeader) (entry : Entry) (bad : ℕ) → index_header section ≡ Ok header → page_at section offset ≡ Ok entry
    → page_header section entry ≡ Err bad → found_in section offset ≡ Err bad
unfolding found_in page_header
search_bad_page section offset header entry bad h page read =
    let o = index_opened section header h in
    let is : page_of offset o.entries ≡ Ok entry = sym (page_whole section header offset o) ∙ page in
    let m = map_err (λ (p : Page). p.header) (page_in section entry) bad read in
    rw (o.whole, is, m) refl

pub search_found : (section : Source) (offset : ℕ) (header : SectionHeader) (entry : Entry) → index_header section ≡ Ok header → page_at section offset ≡ Ok entry
    → found_in section offset ≡ found_by section header.common entry offset
unfolding found_in found_by
search_found section offset header entry h page =
    let o = index_opened section header h in
    let is : page_of offset o.entries ≡ Ok entry = sym (page_whole section header offset o) ∙ page in
    rw (o.whole, is) refl

-- what a search among the entries of an opened page gives
pub picked : (section : Source) (entry : Entry) (header : PageHeader) (o : OpenedPage section entry header) (kind : EntryKind) (table : Table) (offset : ℕ) (result : Option Entry)
    → kind ≡ kind_in entry.function header → table ≡ table_in header
    → ((es : List Entry) → lawful_in section kind table ≡ Ok es → result ≡ chosen offset (take table.count es))
    → result ≡ chosen offset (take (table_in header).count o.entries)
picked section entry header o kind table offset result is_kind is_table search =
    let there : lawful_in section kind table ≡ Ok o.entries = rw (is_kind, is_table) o.lawful in
    search o.entries there ∙ ap (λ (t : Table). chosen offset (take t.count o.entries)) is_table

-- and in the index
pub index_picked : (section : Source) (header : SectionHeader) (o : Opened section header) (count offset : ℕ) (result : Option Entry) → count ≡ header.index.count - 1
    → ((es : List Entry) → lawful_in section kinds.Index header.index ≡ Ok es → result ≡ chosen offset (take count es))
    → chosen offset (before_sentinel o.entries) ≡ result
index_picked section header o count offset result is search =
    let many : length o.entries - 1 ≡ count = omega (arith, o.count, is) in
    ap (λ (n : ℕ). chosen offset (take n o.entries)) many ∙ sym (search o.entries o.lawful)

pub index_last : (section : Source) (header : SectionHeader) (o : Opened section header) (at : ℕ) (last : Entry) → at ≡ header.index.count - 1
    → ((es : List Entry) → lawful_in section kinds.Index header.index ≡ Ok es → slice_get es at ≡ Some last)
    → sentinel o.entries ≡ Some last
index_last section header o at last is search =
    let many : length o.entries - 1 ≡ at = omega (arith, o.count, is) in
    ap (slice_get o.entries) many ∙ search o.entries o.lawful

pub index_empty : (section : Source) (header : SectionHeader) (o : Opened section header) → header.index.count ≡ 0 → sentinel o.entries ≡ None
index_empty section header o none = slice_get_past o.entries (length o.entries - 1) (omega (arith, o.count))
