-- The entry that is found is the first that covers the address.
use Rattle.std.proofs.Common.{◌≡◌, ℕ, Bool, true, false, cond, List, [], ◌∷◌, ◌++◌, Option, Some, None, Ok, Err, refl, ap, subst, ◌∙◌}
use Rattle.plcr_dwarf_cfi.specs.declared.entries.Entry.{Entry}
use Rattle.plcr_dwarf_cfi.specs.declared.entries.Entry.TheVariants.{Common, Description}
use Rattle.plcr_dwarf_cfi.specs.declared.entries.FrameDescription.{FrameDescription}
use Rattle.plcr_dwarf_cfi.specs.declared.fault.CallFrameFault.{CallFrameFault}
use Rattle.plcr_dwarf_cfi.specs.Entries.{at_end, covers, description_over, first_over, found_in, or_behind}
use Rattle.plcr_dwarf_cfi.specs.Lists.{Listed}
use Rattle.plcr_dwarf_cfi.specs.Covering.{IsFirstOver, IsNowhere, NoneOver}

-- an entry that is one of code at the address
record Over (a : ℕ) (entry : Entry) (d : FrameDescription) : Type 0 where
  pub is : entry ≡ Description d
  pub over : covers d a ≡ true

over_by : (a : ℕ) (e d : FrameDescription) (b : Bool) → covers e a ≡ b → cond b (Some e) None ≡ Some d → Over a (Description e) d
over_by a e d true over h =
    let same : e ≡ d = cc in
    record { is = ap Description same; over = subst (λ (k : FrameDescription). covers k a ≡ true) same over }
over_by a e d false over h = let h2 = h in cc

over_of : (a : ℕ) (entry : Entry) (d : FrameDescription) → description_over a entry ≡ Some d → Over a entry d
over_of a (Common c) d h = let h2 = h in cc
over_of a (Description e) d h = over_by a e d (covers e a) refl h

first_step : (a : ℕ) (entry : Entry) (entries : List Entry) (fault : Option CallFrameFault) (d : FrameDescription) (o : Option FrameDescription) → description_over a entry ≡ o
    → (first_over a entries fault ≡ Ok d → IsFirstOver a (record { items = entries; fault = fault }) d)
    → or_behind o (first_over a entries fault) ≡ Ok d → IsFirstOver a (record { items = entry ∷ entries; fault = fault }) d
first_step a entry entries fault d None none rest h =
    let r = rest h in
    record { front = entry ∷ r.front; behind = r.behind; stands = ap (λ (xs : List Entry). entry ∷ xs) r.stands; none = (none, r.none); over = r.over }
first_step a entry entries fault d (Some e) found rest h =
    let same : e ≡ d = cc in
    let o = over_of a entry d (found ∙ ap (λ (k : FrameDescription). let s : Option FrameDescription = Some k in s) same) in
    record { front = []; behind = entries; stands = ap (λ (k : Entry). k ∷ entries) o.is; none = tt; over = o.over }

end_fails : (fault : Option CallFrameFault) (d : FrameDescription) → at_end fault ≡ Ok d → ⊥
end_fails None d h = let h2 = h in cc
end_fails (Some fault) d h = let h2 = h in cc

first_found : (a : ℕ) (entries : List Entry) (fault : Option CallFrameFault) (d : FrameDescription)
    → first_over a entries fault ≡ Ok d → IsFirstOver a (record { items = entries; fault = fault }) d
first_found a [] fault d h = absurd (end_fails fault d h)
first_found a (entry ∷ entries) fault d h =
    first_step a entry entries fault d (description_over a entry) refl (first_found a entries fault d) h

pub found_is_first : (a : ℕ) (list : Listed Entry) (d : FrameDescription) → found_in a list ≡ Ok d → IsFirstOver a list d
found_is_first a list d h = first_found a list.items list.fault d h

first_only : (a : ℕ) (front behind : List Entry) (fault : Option CallFrameFault) (d : FrameDescription) → NoneOver a front → covers d a ≡ true
    → first_over a (front ++ Description d ∷ behind) fault ≡ Ok d
first_only a [] behind fault d none over = rw over refl
first_only a (entry ∷ front) behind fault d none over = rw none.0 (first_only a front behind fault d none.1 over)

pub first_is_found : (a : ℕ) (list : Listed Entry) (d : FrameDescription) → IsFirstOver a list d → found_in a list ≡ Ok d
first_is_found a list d h =
    ap (λ (xs : List Entry). first_over a xs list.fault) h.stands ∙ first_only a h.front h.behind list.fault d h.none h.over

nowhere_step : (a : ℕ) (entry : Entry) (entries : List Entry) (fault : Option CallFrameFault) (e : CallFrameFault) (o : Option FrameDescription) → description_over a entry ≡ o
    → (first_over a entries fault ≡ Err e → IsNowhere a (record { items = entries; fault = fault }) e)
    → or_behind o (first_over a entries fault) ≡ Err e → IsNowhere a (record { items = entry ∷ entries; fault = fault }) e
nowhere_step a entry entries fault e None none rest h = let r = rest h in record { none = (none, r.none); end = r.end }
nowhere_step a entry entries fault e (Some d) found rest h = let h2 = h in cc

nowhere_found : (a : ℕ) (entries : List Entry) (fault : Option CallFrameFault) (e : CallFrameFault)
    → first_over a entries fault ≡ Err e → IsNowhere a (record { items = entries; fault = fault }) e
nowhere_found a [] fault e h = record { none = tt; end = h }
nowhere_found a (entry ∷ entries) fault e h =
    nowhere_step a entry entries fault e (description_over a entry) refl (nowhere_found a entries fault e) h

pub fault_is_nowhere : (a : ℕ) (list : Listed Entry) (e : CallFrameFault) → found_in a list ≡ Err e → IsNowhere a list e
fault_is_nowhere a list e h = nowhere_found a list.items list.fault e h

nowhere_only : (a : ℕ) (entries : List Entry) (fault : Option CallFrameFault) (e : CallFrameFault) → NoneOver a entries → at_end fault ≡ Err e → first_over a entries fault ≡ Err e
nowhere_only a [] fault e none end = end
nowhere_only a (entry ∷ entries) fault e none end = rw none.0 (nowhere_only a entries fault e none.1 end)

pub nowhere_is_fault : (a : ℕ) (list : Listed Entry) (e : CallFrameFault) → IsNowhere a list e → found_in a list ≡ Err e
nowhere_is_fault a list e h = nowhere_only a list.items list.fault e h.none h.end
