-- Where the rows of a table stand.
use Rattle.std.proofs.Common.{◌≡◌, ◌<◌, ℕ, ◌+◌, ◌*◌, ◌^◌, ap, ◌∙◌, arith}
use Rattle.plcr_loader.specs.declared.nlist_64.TheConstants.{LENGTH}
use Rattle.plcr_macho.specs.Sources.{plus}

plus_more : (a b w : ℕ) → plus a b + w < 2 ^ 64 → plus a (b + w) ≡ plus a b + w
plus_more a b w h = omega (arith, h)

-- the next row stands behind a row that isn't at the end of the addresses
pub next_row : (start index : ℕ) → plus start (LENGTH * index) + LENGTH < 2 ^ 64 → plus start (LENGTH * (index + 1)) ≡ plus start (LENGTH * index) + LENGTH
next_row start index h =
    let place : LENGTH * (index + 1) ≡ LENGTH * index + LENGTH = omega arith in
    ap (plus start) place ∙ plus_more start (LENGTH * index) LENGTH h
