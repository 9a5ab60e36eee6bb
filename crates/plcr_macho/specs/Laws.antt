-- What an image in memory is, above the reading of its commands, and which one of a list has an
-- address.
use Rattle.std.specs.Prelude.{◌≡◌, ◌≤◌, ◌<◌, ◌+◌, ◌⊎◌, ℕ, List, length, None, Ok, Err}
use Rattle.std.specs.List.{find}
use Rattle.plcr_memory.specs.Regions.{Contents}
use Rattle.plcr_loader.specs.declared.constants.TheConstants.{SEG_TEXT}
use Rattle.plcr_loader.specs.declared.mach_header_64.TheConstants.{LENGTH, NCMDS, SIZEOFCMDS}
use Rattle.plcr_loader.specs.declared.trouble.Trouble.{Trouble}
use Rattle.plcr_loader.specs.Commands.{Command, AreLaid, IsFirstTrouble}
use Rattle.plcr_loader.specs.Fields.{number}
use Rattle.plcr_regs.specs.declared.arch.Arch.{Arch}
use Rattle.plcr_macho.specs.declared.image.Image.{Image}
use Rattle.plcr_macho.specs.declared.image.ImageFault.{ImageFault}
use Rattle.plcr_macho.specs.declared.image.ImageFault.TheVariants.{NoText}
use Rattle.plcr_macho.specs.Images.{Listed, listed_at}
use Rattle.plcr_macho.specs.Sources.{plus, memory_bytes}
use Rattle.plcr_macho.specs.Loading.{head_at, fault_of, image_at, image_of, image_trouble, is_segment_named}

-- the header stands at the address, as many commands as it says lie one after the other behind it,
-- and the image is what they say
pub record IsLaidOut (memory : Contents) (arch : Arch) (header : ℕ) (image : Image) : Type 0 where
  pub head : List ℕ
  pub commands : List Command
  pub stands : head_at memory arch header ≡ Ok head
  pub count : length commands ≡ number NCMDS head
  pub laid : AreLaid (memory_bytes memory (plus header LENGTH)) image_trouble
      (number SIZEOFCMDS head) 0 0 commands
  pub says : image_of header head commands ≡ Ok image

-- the header stands at the address, and the fault is that of the first load command behind it that
-- doesn't lie
pub record IsCommandFault (memory : Contents) (arch : Arch) (header : ℕ)
    (fault : ImageFault) : Type 0 where
  pub head : List ℕ
  pub trouble : Trouble
  pub stands : head_at memory arch header ≡ Ok head
  pub first : IsFirstTrouble (memory_bytes memory (plus header LENGTH)) image_trouble
      (number SIZEOFCMDS head) (number NCMDS head) 0 0 trouble
  pub is : fault ≡ fault_of (plus header LENGTH) trouble

-- the header stands at the address, all its commands lie behind it, and none of them is a segment
-- `__TEXT`
pub record LacksText (memory : Contents) (arch : Arch) (header : ℕ) (fault : ImageFault) : Type 0
  where
    pub head : List ℕ
    pub commands : List Command
    pub stands : head_at memory arch header ≡ Ok head
    pub count : length commands ≡ number NCMDS head
    pub laid : AreLaid (memory_bytes memory (plus header LENGTH)) image_trouble
        (number SIZEOFCMDS head) 0 0 commands
    pub none : find (is_segment_named SEG_TEXT) commands ≡ None
    pub is : fault ≡ NoText

-- the fault is the first one there: of the header, then of the first command that doesn't lie, then
-- that there is no `__TEXT`
abbrev pub IsFirstFault : Contents → Arch → ℕ → ImageFault → Type 0
IsFirstFault memory arch header fault = (head_at memory arch header ≡ Err fault)
    ⊎ IsCommandFault memory arch header fault ⊎ LacksText memory arch header fault

-- the image is read at the header, and has the address in its `__TEXT`
pub record HasAddress (memory : Contents) (arch : Arch) (address header : ℕ)
    (image : Image) : Type 0 where
  pub reads : image_at memory arch header ≡ Ok image
  pub «from» : image.header ≤ address
  pub to : address < image.header + image.text_size

-- the image of the list at the index has the address, and none before it has
pub record IsFirstOver (memory : Contents) (arch : Arch) (address : ℕ) (images : List Listed)
    (index : ℕ) (image : Image) : Type 0 where
  pub inside : index < length images
  pub here : HasAddress memory arch address (listed_at images index).header image
  pub before : (k : ℕ) → k < index → (other : Image) →
      ¬ HasAddress memory arch address (listed_at images k).header other
