-- What is kept of the sections of a memory.
use Rattle.std.specs.Prelude.{◌≡◌, List, All, Option, Some, None, IfOk}
use Rattle.plcr_memory.specs.Regions.{Contents}
use Rattle.plcr_macho.specs.declared.image.Part.{Part}
use Rattle.plcr_compact.specs.declared.known.KnownIndex.{KnownIndex}
use Rattle.plcr_compact.specs.declared.known.KnownPage.{KnownPage}
use Rattle.plcr_compact.specs.declared.section.Entry.{Entry}
use Rattle.plcr_compact.specs.declared.section.PageHeader.{PageHeader}
use Rattle.plcr_compact.specs.declared.section.SectionHeader.{SectionHeader}
use Rattle.plcr_compact.specs.Sections.{section_at}
use Rattle.plcr_compact.specs.Tables.{Answer}
use Rattle.plcr_compact.specs.inner.Searches.{IsNear, IsNearPage, index_header, page_header}

-- the answer is what reading the index of a section gives
pub record IndexIs (memory : Contents) (part : Part) (answer : Answer SectionHeader) : Type 0 where
  pub header : answer ≡ index_header (section_at memory part)
  pub near : IfOk answer (λ header. IsNear header.common × IsNear header.index)

-- the answer is what reading the page of an entry gives
pub record PageIs (memory : Contents) (part : Part) (entry : Entry)
    (answer : Answer PageHeader) : Type 0 where
  pub header : answer ≡ page_header (section_at memory part) entry
  pub near : IfOk answer IsNearPage

-- what a slot has is so
abbrev pub IndexHolds : Contents → Option KnownIndex → Type 0
IndexHolds memory None = Unit {0}
IndexHolds memory (Some known) = IndexIs memory known.part known.answer

abbrev pub PageHolds : Contents → Option KnownPage → Type 0
PageHolds memory None = Unit {0}
PageHolds memory (Some known) = PageIs memory known.part known.entry known.answer

-- and so is what all slots have
pub record HoldAll (memory : Contents) (headers : List (Option KnownIndex))
    (heads : List (Option KnownPage)) : Type 0 where
  pub indexes : All (IndexHolds memory) headers
  pub pages : All (PageHolds memory) heads
