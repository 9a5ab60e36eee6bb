-- A core is what its bytes lay out, and else the fault is the first one there.
use Rattle.std.proofs.Common.{◌≡◌, ◌≤◌, ◌+◌, ◌==◌, ◌&&◌, ◌⊎◌, ℕ, nat_lt, Bool, true, false, cond, inl, inr, List, [], ◌∷◌, length, filter_map, All, Option, None, Some, Result, Ok, Err, refl, sym, ap, subst, ◌∙◌, arith}
use Rattle.std.specs.Prelude.{◌≢◌, ok_or}
use Rattle.std.proofs.lemmas.Bool.{le-ltb, ltb-true, ltb-false}
use Rattle.std.proofs.lemmas.Bool.Decides.{nat_tests}
use Rattle.plcr_base.proofs.Chained.{bind_ok, bind_err, if_ok}
use Rattle.plcr_base.specs.Chains.{◌>>=◌}
use Rattle.plcr_memory.specs.declared.region.Region.{Region}
use Rattle.plcr_memory.specs.Regions.{Contents, Ends, AreApart}
use Rattle.plcr_memory.specs.Faults.{IsFirstWrap, IsFirstOverlap}
use Rattle.plcr_loader.specs.declared.constants.TheConstants.{MH_CORE, MH_MAGIC_64}
use Rattle.plcr_loader.specs.declared.mach_header_64.TheConstants.{LENGTH, MAGIC, CPUTYPE, FILETYPE, NCMDS, SIZEOFCMDS}
use Rattle.plcr_loader.specs.declared.trouble.Trouble.{Trouble}
use Rattle.plcr_loader.specs.Fields.{number}
use Rattle.plcr_loader.specs.Commands.{Command, commands_at, faulted}
use Rattle.plcr_loader.specs.Sources.{file_bytes}
use Rattle.plcr_loader.proofs.Files.{files_are_plain}
use Rattle.plcr_loader.proofs.Lists.{lists_lie, lists_again, lists_stop}
use Rattle.plcr_loader.proofs.Results.{faulted_ok, faulted_err}
use Rattle.plcr_regs.specs.declared.arch.Arch.{Arch}
use Rattle.plcr_regs.specs.declared.registers.Registers.{Registers}
use Rattle.plcr_core.specs.declared.fault.CoreFault.{CoreFault}
use Rattle.plcr_core.specs.declared.fault.CoreFault.TheVariants as faults
use Rattle.plcr_core.specs.declared.header.Header.{Header}
use Rattle.plcr_core.specs.declared.limits.TheConstants.{MOST_THREADS}
use Rattle.plcr_core.specs.declared.read.Core.{Core}
use Rattle.plcr_core.specs.Heads.{arch_of, header_in, is_core}
use Rattle.plcr_core.specs.Cores.{Parts, commands_in, core_trouble, fault_of, parts_in, parts_of, region_of, thread_of}
use Rattle.plcr_core.specs.Reading.{IsAnswer, core_of}
use Rattle.plcr_core.specs.Laws.{IsHeader, AreCommands, AreSome, IsLaidOut, IsHeaderFault, IsPartFault, IsFirstFault}

-- the header by its tests
abbrev by_arch : List ℕ → Arch → Result Header CoreFault
by_arch file arch = Ok (record { arch = arch; commands = number NCMDS file; end = LENGTH + number SIZEOFCMDS file })

abbrev by_cpu : List ℕ → Option Arch → Result Header CoreFault
by_cpu file found = ok_or found (faults.OtherCpu (number CPUTYPE file)) >>= λ arch. by_arch file arch

abbrev by_tests : List ℕ → Bool → Bool → Option Arch → Result Header CoreFault
by_tests file short core found =
    cond short (Err (faults.Truncated (length file)))
    (cond core (by_cpu file found) (Err (faults.NotCore (number MAGIC file) (number FILETYPE file))))

both_are : (m n a b : ℕ) → ((m == a) && (n == b)) ≡ true → (m ≡ a) × (n ≡ b)
both_are m n a b h = (grind (arith, nat_tests), grind (arith, nat_tests))

not_both : (m n a b : ℕ) → ((m == a) && (n == b)) ≡ false → ¬ ((m ≡ a) × (n ≡ b))
not_both m n a b h p =
    let q = p.0 in
    let r = p.1 in
    grind (arith, nat_tests)

-- the header that is found, and the fault that is found
Found : List ℕ → Result Header CoreFault → Type 0
Found file (Ok header) = IsHeader file header
Found file (Err fault) = IsHeaderFault file fault

found_by : (file : List ℕ) (short core : Bool) (found : Option Arch) → nat_lt (length file) LENGTH ≡ short → is_core file ≡ core → arch_of (number CPUTYPE file) ≡ found
    → Found file (by_tests file short core found)
unfolding Found
found_by file true core found is_short _ _ = (refl, ltb-true (length file) LENGTH is_short)
found_by file false false found is_short no_core _ =
    (ltb-false (length file) LENGTH is_short, refl, refl, not_both (number MAGIC file) (number FILETYPE file) MH_MAGIC_64 MH_CORE no_core)
found_by file false true None is_short a_core other =
    let both = both_are (number MAGIC file) (number FILETYPE file) MH_MAGIC_64 MH_CORE a_core in
    (ltb-false (length file) LENGTH is_short, both.0, both.1, refl, other)
found_by file false true (Some arch) is_short a_core known =
    let both = both_are (number MAGIC file) (number FILETYPE file) MH_MAGIC_64 MH_CORE a_core in
    record { whole = ltb-false (length file) LENGTH is_short; magic = both.0; filetype = both.1; arch = known; commands = refl; end = refl }

header_found : (file : List ℕ) → Found file (header_in file)
unfolding header_in
header_found file = found_by file (nat_lt (length file) LENGTH) (is_core file) (arch_of (number CPUTYPE file)) refl refl refl

header_stands : (file : List ℕ) (header : Header) → header_in file ≡ Ok header → IsHeader file header
unfolding Found
header_stands file header h = subst (Found file) h (header_found file)

header_fails : (file : List ℕ) (fault : CoreFault) → header_in file ≡ Err fault → IsHeaderFault file fault
unfolding Found
header_fails file fault h = subst (Found file) h (header_found file)

tests_pass : (m n l a b w : ℕ) → w ≤ l → m ≡ a → n ≡ b → (nat_lt l w ≡ false) × (((m == a) && (n == b)) ≡ true)
tests_pass m n l a b w le p q = (grind (arith, nat_tests), grind (arith, nat_tests))

-- a header that stands is found
header_again : (file : List ℕ) (header : Header) → IsHeader file header → header_in file ≡ Ok header
unfolding header_in
header_again file header h =
    let t = tests_pass (number MAGIC file) (number FILETYPE file) (length file) MH_MAGIC_64 MH_CORE LENGTH h.whole h.magic h.filetype in
    let same : record { arch = header.arch; commands = number NCMDS file; end = LENGTH + number SIZEOFCMDS file } ≡ header =
    λ i. record { arch = header.arch; commands = sym h.commands i; end = sym h.end i } in
    ap (λ (b : Bool). by_tests file b (is_core file) (arch_of (number CPUTYPE file))) t.0
    ∙ ap (λ (b : Bool). by_tests file false b (arch_of (number CPUTYPE file))) t.1
    ∙ ap (by_cpu file) h.arch
    ∙ ap (λ (x : Header). let r : Result Header CoreFault = Ok x in r) same

-- the load commands of a file
abbrev read : List ℕ → Header → Result (List Command) Trouble
read file header = commands_at (file_bytes file) (core_trouble (length file)) header.end header.commands 0 LENGTH

read_ok : (file : List ℕ) (header : Header) (cs : List Command) → commands_in file header ≡ Ok cs → read file header ≡ Ok cs
unfolding commands_in
read_ok file header cs h = faulted_ok (fault_of (length file)) (read file header) cs h

read_err : (file : List ℕ) (header : Header) (fault : CoreFault) → commands_in file header ≡ Err fault → (t : Trouble) × (read file header ≡ Err t) × (fault ≡ fault_of (length file) t)
unfolding commands_in
read_err file header fault h = faulted_err (fault_of (length file)) (read file header) fault h

commands_lie : (file : List ℕ) (header : Header) (cs : List Command) → header_in file ≡ Ok header → commands_in file header ≡ Ok cs → AreCommands file header cs
commands_lie file header cs head h =
    let l = lists_lie (file_bytes file) (files_are_plain file) (core_trouble (length file)) header.end header.commands 0 LENGTH cs (read_ok file header cs h) in
    record { stands = header_stands file header head; count = l.0; laid = l.1 }

commands_again : (file : List ℕ) (header : Header) (cs : List Command) → AreCommands file header cs → commands_in file header ≡ Ok cs
unfolding commands_in
commands_again file header cs h =
    let all = lists_again (file_bytes file) (files_are_plain file) (core_trouble (length file)) header.end 0 LENGTH cs h.laid in
    let read_all : read file header ≡ Ok cs = subst (λ (n : ℕ). commands_at (file_bytes file) (core_trouble (length file)) header.end n 0 LENGTH ≡ Ok cs) h.count all in
    ap (faulted (fault_of (length file))) read_all

-- the parts that commands give
abbrev parts_by : Arch → List Region → List Registers → Result Parts CoreFault
parts_by arch regions threads =
    cond (length threads == 0) (Err faults.NoThread)
    (cond (nat_lt MOST_THREADS (length threads)) (Err (faults.TooManyThreads (length threads))) (Ok (record { arch = arch; regions = regions; threads = threads })))

not_none : (n : ℕ) → (n == 0) ≡ false → 1 ≤ n
not_none n h = grind (arith, nat_tests)

is_zero : (n : ℕ) → (n == 0) ≡ true → n ≡ 0
is_zero n h = grind (arith, nat_tests)

none_there : (xs : List Registers) → (length xs == 0) ≡ true → xs ≡ []
none_there [] h = refl
none_there (x ∷ xs) h = let none : length (x ∷ xs) ≡ 0 = is_zero (length (x ∷ xs)) h in absurd (omega arith)

some_there : (threads : List Registers) → (length threads == 0) ≡ false → nat_lt MOST_THREADS (length threads) ≡ false → AreSome threads
some_there threads h k = record { some = not_none (length threads) h; few = ltb-false MOST_THREADS (length threads) k }

parts_ok : (arch : Arch) (regions : List Region) (threads : List Registers) (p : Parts) → parts_by arch regions threads ≡ Ok p
    → AreSome threads × (record { arch = arch; regions = regions; threads = threads } ≡ p)
parts_ok arch regions threads p h =
    let parts : Parts = record { arch = arch; regions = regions; threads = threads } in
    let kept : Result Parts CoreFault = Ok parts in
    let some = if_ok (length threads == 0) faults.NoThread (cond (nat_lt MOST_THREADS (length threads)) (Err (faults.TooManyThreads (length threads))) kept) p h in
    let few = if_ok (nat_lt MOST_THREADS (length threads)) (faults.TooManyThreads (length threads)) kept p some.1 in
    let same : parts ≡ p = let e : kept ≡ Ok p = few.1 in cc in
    (some_there threads some.0 few.0, same)

not_zero : (n : ℕ) → 1 ≤ n → (n == 0) ≡ false
not_zero n h = grind (arith, nat_tests)

parts_again : (arch : Arch) (regions : List Region) (threads : List Registers) → AreSome threads → parts_by arch regions threads ≡ Ok (record { arch = arch; regions = regions; threads = threads })
parts_again arch regions threads h = rw (not_zero (length threads) h.some, le-ltb MOST_THREADS (length threads) h.few) refl

parts_fail : (arch : Arch) (regions : List Region) (threads : List Registers) (none many : Bool) (fault : CoreFault)
    → (length threads == 0) ≡ none → nat_lt MOST_THREADS (length threads) ≡ many
    → ◌≡◌ {A = Result Parts CoreFault}
    (cond none (Err faults.NoThread) (cond many (Err (faults.TooManyThreads (length threads))) (Ok (record { arch = arch; regions = regions; threads = threads })))) (Err fault)
    → IsPartFault threads regions fault
parts_fail arch regions threads true many fault no_thread _ h =
    let same : faults.NoThread ≡ fault = cc in
    subst (IsPartFault threads regions) same (none_there threads no_thread)
parts_fail arch regions threads false true fault _ too_many h =
    let same : faults.TooManyThreads (length threads) ≡ fault = cc in
    subst (IsPartFault threads regions) same (refl, ltb-true MOST_THREADS (length threads) too_many)
parts_fail arch regions threads false false fault _ _ h = cc

-- what is wrong with regions
IsRegionFault : List Region → CoreFault → Type 0
IsRegionFault regions (faults.Wraps index) = IsFirstWrap regions index
IsRegionFault regions (faults.Overlap first second) = All Ends regions × IsFirstOverlap regions first second
IsRegionFault regions fault = ⊥

-- a fault that is answered is that of reading, or that of the regions that were read
answered : (file : List ℕ) (read : Result Parts CoreFault) (fault : CoreFault) → fault ≢ faults.Memory → IsAnswer file read (Err fault)
    → (read ≡ Err fault) ⊎ ((p : Parts) × (read ≡ Ok p) × IsRegionFault p.regions fault)
unfolding IsRegionFault
answered file read faults.Memory other h = absurd (other refl)
answered file (Err e) (faults.Truncated at) other h = inl (cc)
answered file (Err e) (faults.NotCore magic filetype) other h = inl (cc)
answered file (Err e) (faults.OtherCpu cpu) other h = inl (cc)
answered file (Err e) (faults.BadCommand index) other h = inl (cc)
answered file (Err e) faults.NoThread other h = inl (cc)
answered file (Err e) (faults.TooManyThreads count) other h = inl (cc)
answered file (Err e) (faults.Overlap first second) other h = inl (cc)
answered file (Err e) (faults.Wraps index) other h = inl (cc)
answered file (Ok p) (faults.Overlap first second) other h = inr (p, refl, h)
answered file (Ok p) (faults.Wraps index) other h = inr (p, refl, h)
answered file (Ok p) (faults.Truncated at) other h = absurd h
answered file (Ok p) (faults.NotCore magic filetype) other h = absurd h
answered file (Ok p) (faults.OtherCpu cpu) other h = absurd h
answered file (Ok p) (faults.BadCommand index) other h = absurd h
answered file (Ok p) faults.NoThread other h = absurd h
answered file (Ok p) (faults.TooManyThreads count) other h = absurd h

given_by : (threads : List Registers) (regions : List Region) (fault : CoreFault) → AreSome threads → IsRegionFault regions fault → IsPartFault threads regions fault
unfolding IsRegionFault
given_by threads regions (faults.Wraps index) some h = (some, h)
given_by threads regions (faults.Overlap first second) some h = (some, h.0, h.1)
given_by threads regions (faults.Truncated at) some h = absurd h
given_by threads regions (faults.NotCore magic filetype) some h = absurd h
given_by threads regions (faults.OtherCpu cpu) some h = absurd h
given_by threads regions (faults.BadCommand index) some h = absurd h
given_by threads regions faults.NoThread some h = absurd h
given_by threads regions (faults.TooManyThreads count) some h = absurd h
given_by threads regions faults.Memory some h = absurd h

-- what reading gives comes from commands that lie behind a header
pub record ComesFrom (file : List ℕ) (p : Parts) : Type 0 where
  pub header : Header
  pub commands : List Command
  pub lie : AreCommands file header commands
  pub some : AreSome (filter_map (thread_of header.arch) commands)
  pub is : record { arch = header.arch; regions = filter_map region_of commands; threads = filter_map (thread_of header.arch) commands } ≡ p

pub comes_from : (file : List ℕ) (p : Parts) → parts_in file ≡ Ok p → ComesFrom file p
unfolding parts_in
comes_from file p h =
    let a = bind_ok (header_in file) (λ (header : Header). commands_in file header >>= λ (cs : List Command). parts_of header.arch cs) p h in
    let b = bind_ok (commands_in file a.0) (λ (cs : List Command). parts_of a.0.arch cs) p a.2 in
    let given = parts_ok a.0.arch (filter_map region_of b.0) (filter_map (thread_of a.0.arch) b.0) p b.2 in
    record { header = a.0; commands = b.0; lie = commands_lie file a.0 b.0 a.1 b.1; some = given.0; is = given.1 }

-- the core that is answered is what the file lays out
laid_out : (file : List ℕ) (core : Core) (read : Result Parts CoreFault) → parts_in file ≡ read → IsAnswer file read (Ok core) → IsLaidOut file core
laid_out file core (Err e) from h = cc
laid_out file core (Ok p) from h =
    let f = comes_from file p from in
    let is : core ≡ core_of file p = h.0 in
    let threads : core.threads ≡ filter_map (thread_of f.header.arch) f.commands = ap (λ (c : Core). c.threads) is ∙ sym (ap (λ (p : Parts). p.threads) f.is) in
    record {
      header = f.header;
      commands = f.commands;
      lie = f.lie;
      arch = ap (λ (c : Core). c.arch) is ∙ sym (ap (λ (p : Parts). p.arch) f.is);
      memory = ap (λ (c : Core). c.memory) is ∙ sym (ap (λ (p : Parts). let m : Contents = record { file = file; regions = p.regions } in m) f.is);
      threads = threads;
      some = subst AreSome (sym threads) f.some;
      ends = subst (All Ends) (sym (ap (λ (c : Core). c.memory.regions) is)) h.1;
      apart = subst AreApart (sym (ap (λ (c : Core). c.memory.regions) is)) h.2;
    }

pub cores_lie : (file : List ℕ) (core : Core) → IsAnswer file (parts_in file) (Ok core) → IsLaidOut file core
cores_lie file core h = laid_out file core (parts_in file) refl h

-- a core that is laid out is answered
pub cores_again : (file : List ℕ) (core : Core) → IsLaidOut file core → IsAnswer file (parts_in file) (Ok core)
unfolding parts_in
cores_again file core h =
    let header = h.header in
    let regions = filter_map region_of h.commands in
    let threads = filter_map (thread_of header.arch) h.commands in
    let p : Parts = record { arch = header.arch; regions = regions; threads = threads } in
    let stands = h.lie.stands in
    let read : parts_in file ≡ Ok p =
    ap (λ (r : Result Header CoreFault). r >>= λ (header : Header). commands_in file header >>= λ (cs : List Command). parts_of header.arch cs) (header_again file header stands)
    ∙ ap (λ (r : Result (List Command) CoreFault). r >>= λ (cs : List Command). parts_of header.arch cs) (commands_again file header h.commands h.lie)
    ∙ parts_again header.arch regions threads (subst AreSome h.threads h.some) in
    let same : core.memory.regions ≡ regions = ap (λ (m : Contents). m.regions) h.memory in
    let is : core ≡ core_of file p = λ i. record { arch = h.arch i; memory = h.memory i; threads = h.threads i } in
    subst (λ (r : Result Parts CoreFault). IsAnswer file r (Ok core)) (sym read)
    (is, subst (All Ends) same h.ends, subst AreApart same h.apart)

-- a fault of reading is the first one there
read_stops : (file : List ℕ) (fault : CoreFault) → parts_in file ≡ Err fault → IsFirstFault file fault
unfolding parts_in
read_stops file fault h =
    elim (bind_err (header_in file) (λ (header : Header). commands_in file header >>= λ (cs : List Command). parts_of header.arch cs) fault h) [
      | inl at_header ↦ inl (header_fails file fault at_header)
      | inr past ↦
          let header = past.0 in
          elim (bind_err (commands_in file header) (λ (cs : List Command). parts_of header.arch cs) fault past.2) [
            | inl broken ↦
                let t = read_err file header fault broken in
                inr (inl (record {
                  header = header;
                  trouble = t.0;
                  stands = header_stands file header past.1;
                  first = lists_stop (file_bytes file) (files_are_plain file) (core_trouble (length file)) header.end header.commands 0 LENGTH t.0 t.1;
                  is = t.2;
                }))
            | inr whole ↦
                let cs = whole.0 in
                let threads = filter_map (thread_of header.arch) cs in
                inr (inr (record {
                  header = header;
                  commands = cs;
                  lie = commands_lie file header cs past.1 whole.1;
                  is = parts_fail header.arch (filter_map region_of cs) threads (length threads == 0) (nat_lt MOST_THREADS (length threads)) fault refl refl whole.2;
                }))
          ]
    ]

-- the fault that is answered is the first one there
pub cores_stop : (file : List ℕ) (fault : CoreFault) → fault ≢ faults.Memory → IsAnswer file (parts_in file) (Err fault) → IsFirstFault file fault
cores_stop file fault other h =
    elim (answered file (parts_in file) fault other h) [
      | inl at_reading ↦ read_stops file fault at_reading
      | inr at_regions ↦
          let f = comes_from file at_regions.0 at_regions.1 in
          let regions : at_regions.0.regions ≡ filter_map region_of f.commands = sym (ap (λ (p : Parts). p.regions) f.is) in
          let wrong = subst (λ (rs : List Region). IsRegionFault rs fault) regions at_regions.2 in
          inr (inr (record {
            header = f.header;
            commands = f.commands;
            lie = f.lie;
            is = given_by (filter_map (thread_of f.header.arch) f.commands) (filter_map region_of f.commands) fault f.some wrong;
          }))
    ]
