-- What the list of load commands is.
use Rattle.std.proofs.Common.{◌≡◌, ◌≤◌, ℕ, zero, suc, ◌+◌, ◌∙◌, false, ◌||◌, inl, inr, lit≤, add-zero, List, [], ◌∷◌, length, take, Option, Some, None, Ok, Err, nat_lt, refl, sym, ap, subst, arith}
use Rattle.std.specs.Prelude.{sum_by}
use Rattle.std.proofs.lemmas.List.Sums.{sum_by-cons}
use Rattle.std.proofs.lemmas.Bool.Decides.{nat_tests}
use Rattle.plcr_base.specs.Chains.{◌>>=◌, passed}
use Rattle.plcr_base.proofs.Chained.{bind_ok, bind_err}
use Rattle.plcr_loader.specs.declared.load_command.TheConstants.{LENGTH, CMD, CMDSIZE}
use Rattle.plcr_loader.specs.declared.trouble.Trouble.{Trouble}
use Rattle.plcr_loader.specs.Commands.{Bytes, Command, Test, framed_at, command_at, commands_at, IsLaid, AreLaid, IsPlain, IsFirstTrouble}
use Rattle.plcr_loader.specs.Fields.{number}
use Rattle.plcr_loader.proofs.Fields.{number_front}
use Rattle.plcr_loader.proofs.Framed.{framed_ok}

-- a test that was passed
pub passed_ok : {A E : Type 0} (x y : A) (o : Option E) → passed x o ≡ Ok y → (o ≡ None) × (x ≡ y)
passed_ok x y None h = (refl, cc)
passed_ok x y (Some e) h = cc

fits_size : (size end at : ℕ) → LENGTH ≤ size → at + size ≤ end → (nat_lt size LENGTH || nat_lt end (at + size)) ≡ false
fits_size size end at h k = grind (arith, nat_tests)

fits_front : (size end at : ℕ) → LENGTH ≤ size → at + size ≤ end → nat_lt end (at + LENGTH) ≡ false
fits_front size end at h k = grind (arith, nat_tests)

framed_again : (source : Bytes) (end index at cmd size : ℕ) (front bytes : List ℕ) → source at LENGTH ≡ Some front → number CMD front ≡ cmd → number CMDSIZE front ≡ size
    → nat_lt end (at + LENGTH) ≡ false → (nat_lt size LENGTH || nat_lt end (at + size)) ≡ false → source at size ≡ Some bytes
    → framed_at source end index at ≡ Ok (record { cmd = cmd; cmdsize = size; place = at; bytes = bytes })
unfolding framed_at
framed_again source end index at cmd size front bytes begins is_cmd is_size t u there = rw (t, begins, is_cmd, is_size, u, there) refl

-- a command that is read lies at its place
laid_from_read : (source : Bytes) → IsPlain source → (test : Test) (end index at : ℕ) (c : Command) → command_at source test end index at ≡ Ok c → IsLaid source test end index at c
laid_from_read source plain test end index at c h =
    let a = bind_ok (framed_at source end index at) (λ c. passed c (test index c)) c h in
    let p = passed_ok a.0 c (test index a.0) a.2 in
    let framed : framed_at source end index at ≡ Ok c = a.1 ∙ ap Ok p.1 in
    let f = framed_ok source end index at c framed in
    let begins = plain.front at LENGTH c.cmdsize c.bytes f.least f.there in
    let same : f.front ≡ take LENGTH c.bytes = cc in
    record {
      stands = f.stands;
      within = f.within;
      least = f.least;
      there = f.there;
      cmd = f.cmd ∙ ap (number CMD) same ∙ number_front CMD LENGTH c.bytes (lit≤ tt);
      cmdsize = f.cmdsize ∙ ap (number CMDSIZE) same ∙ number_front CMDSIZE LENGTH c.bytes (lit≤ tt);
      passes = subst (λ (x : Command). test index x ≡ None) p.1 p.0;
    }

-- a command that lies at a place is read there
read_from_laid : (source : Bytes) → IsPlain source → (test : Test) (end index at : ℕ) (c : Command) → IsLaid source test end index at c → command_at source test end index at ≡ Ok c
read_from_laid source plain test end index at c h =
    let begins = plain.front at LENGTH c.cmdsize c.bytes h.least h.there in
    let framed = framed_again source end index at c.cmd c.cmdsize (take LENGTH c.bytes) c.bytes begins
    (number_front CMD LENGTH c.bytes (lit≤ tt) ∙ sym h.cmd) (number_front CMDSIZE LENGTH c.bytes (lit≤ tt) ∙ sym h.cmdsize)
    (fits_front c.cmdsize end at h.least h.within) (fits_size c.cmdsize end at h.least h.within) h.there in
    let made : Command = record { cmd = c.cmd; cmdsize = c.cmdsize; place = at; bytes = c.bytes } in
    let same : made ≡ c = ap (λ p. record { cmd = c.cmd; cmdsize = c.cmdsize; place = p; bytes = c.bytes }) (sym h.stands) in
    rw (framed, same, h.passes) refl

-- the commands that are read lie one after the other
pub lists_lie : (source : Bytes) → IsPlain source → (test : Test) (end count index at : ℕ) (cs : List Command) → commands_at source test end count index at ≡ Ok cs → (length cs ≡ count) × AreLaid source test end index at cs
lists_lie source plain test end zero index at cs h =
    let same : [] ≡ cs = cc in
    subst (λ (xs : List Command). (length xs ≡ 0) × AreLaid source test end index at xs) same (refl, tt)
lists_lie source plain test end (suc left) index at cs h =
    let a = bind_ok (command_at source test end index at) (λ c. commands_at source test end left (index + 1) (at + c.cmdsize) >>= λ cs. Ok (c ∷ cs)) cs h in
    let b = bind_ok (commands_at source test end left (index + 1) (at + a.0.cmdsize)) (λ cs. Ok (a.0 ∷ cs)) cs a.2 in
    let rest = lists_lie source plain test end left (index + 1) (at + a.0.cmdsize) b.0 b.1 in
    let same : a.0 ∷ b.0 ≡ cs = cc in
    subst (λ (xs : List Command). (length xs ≡ suc left) × AreLaid source test end index at xs) same
    (ap (λ n. suc n) rest.0, (laid_from_read source plain test end index at a.0 a.1, rest.1))

-- commands that lie one after the other are read
pub lists_again : (source : Bytes) → IsPlain source → (test : Test) (end index at : ℕ) (cs : List Command) → AreLaid source test end index at cs → commands_at source test end (length cs) index at ≡ Ok cs
lists_again source plain test end index at [] h = refl
lists_again source plain test end index at (c ∷ cs) h =
    let first = read_from_laid source plain test end index at c h.0 in
    let rest = lists_again source plain test end (index + 1) (at + c.cmdsize) cs h.1 in
    rw (first, rest) refl

-- the next command's place, counted from one command earlier
next_is : (source : Bytes) (test : Test) (end index at size n total : ℕ) (e : Trouble) → command_at source test end ((index + 1) + n) ((at + size) + total) ≡ Err e → command_at source test end (index + suc n) (at + (size + total)) ≡ Err e
next_is source test end index at size n total e h =
    let i : index + suc n ≡ (index + 1) + n = omega arith in
    let a : at + (size + total) ≡ (at + size) + total = omega arith in
    rw (i, a) h

-- where the list isn't read, the trouble is that of the first command that doesn't lie
pub lists_stop : (source : Bytes) → IsPlain source → (test : Test) (end count index at : ℕ) (e : Trouble) → commands_at source test end count index at ≡ Err e → IsFirstTrouble source test end count index at e
lists_stop source plain test end zero index at e h = cc
lists_stop source plain test end (suc left) index at e h =
    elim (bind_err (command_at source test end index at) (λ c. commands_at source test end left (index + 1) (at + c.cmdsize) >>= λ cs. Ok (c ∷ cs)) e h) [
      | inl here ↦ record { before = []; fewer = omega arith; laid = tt; next = rw (add-zero, add-zero) here }
      | inr later ↦
          elim (bind_err (commands_at source test end left (index + 1) (at + later.0.cmdsize)) (λ cs. Ok (later.0 ∷ cs)) e later.2) [
            | inl there ↦
                let rest = lists_stop source plain test end left (index + 1) (at + later.0.cmdsize) e there in
                record {
                  before = later.0 ∷ rest.before;
                  fewer = omega (arith, rest.fewer);
                  laid = (laid_from_read source plain test end index at later.0 later.1, rest.laid);
                  next = rw (sum_by-cons (λ (c : Command). c.cmdsize) later.0 rest.before) (next_is source test end index at later.0.cmdsize (length rest.before) (sum_by (λ c. c.cmdsize) rest.before) e rest.next);
                }
            | inr none ↦ cc
          ]
    ]
