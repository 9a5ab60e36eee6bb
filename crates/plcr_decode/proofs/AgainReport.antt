-- A whole report is read again.
use Rattle.std.proofs.Common.{◌≡◌, ℕ, ◌==◌, List, [], ◌∷◌, ◌++◌, length, map, Option, Some, None, Result, Ok, cond, false, refl, ap, ◌∙◌, append-nil}
use Rattle.std.specs.Option.{IfSome}
use Rattle.plcr_wire.specs.Message.{Value, Bytes, Field, spelling}
use Rattle.plcr_base.specs.Chains.{◌>>=◌}
use Rattle.plcr_report.specs.Messages.{system_message, application_message, thread_message, image_message, signal_message, process_message, info_message, report_message, maybe}
use Rattle.plcr_report.specs.Spelling.{spelling_of}
use Rattle.plcr_report.specs.declared.kinds.Kind.{Kind}
use Rattle.plcr_report.specs.declared.kinds.Kind.TheVariants as kinds
use Rattle.plcr_report.specs.declared.messages.System.{System}
use Rattle.plcr_report.specs.declared.messages.Application.{Application}
use Rattle.plcr_report.specs.declared.messages.Thread.{Thread}
use Rattle.plcr_report.specs.declared.messages.Image.{Image}
use Rattle.plcr_report.specs.declared.messages.Signal.{Signal}
use Rattle.plcr_report.specs.declared.messages.Process.{Process}
use Rattle.plcr_report.specs.declared.messages.Info.{Info}
use Rattle.plcr_report.specs.declared.messages.Report.{Report}
use Rattle.plcr_decode.specs.declared.faults.DecodeFault.{DecodeFault}
use Rattle.plcr_decode.specs.Fields.{fields_of, messages_in, together, joined, last_or, last_value, is_there}
use Rattle.plcr_decode.specs.Scan.{scan}
use Rattle.plcr_decode.specs.Required.{needs, each_whole, one_whole, whole}
use Rattle.plcr_decode.proofs.Wholes.{system_whole, application_whole, thread_whole, image_whole, signal_whole, process_whole, info_whole, report_whole, root_written}
use Rattle.plcr_decode.specs.Values.{one_in, where_there, system_of, application_of, thread_of, image_of, signal_of, process_of, info_of, report_of}
use Rattle.plcr_decode.specs.Reads.{root_of, reads}
use Rattle.plcr_decode.proofs.Bounded.{FitsThread, FitsImage, FitsProcess, FitsInfo, FitsReport}
use Rattle.plcr_decode.proofs.Again.{Says, AreGood, good_append, good_message, good_maybe_message, good_rows, rows_of, rows_messages, rows_whole, rows_values, rows_others, rows_last, one_whole_again, one_value_again, fields_again, scan_again}
use Rattle.plcr_decode.proofs.AgainLeaves.{system_says, application_says, signal_says, process_says, info_says}
use Rattle.plcr_decode.proofs.AgainNodes.{then_ok, thread_says, image_says}

-- the field of a message that stands there or not
abbrev maybe_field : {A : Type 0} → ℕ → (A → List Field) → Option A → List Field
maybe_field n message o = map (λ v. record { number = n; value = v }) (maybe (λ x. Bytes (spelling (message x)) ∷ []) o)

abbrev maybe_last : {A : Type 0} → (A → List Field) → Option A → Option Value
maybe_last message None = None
maybe_last message (Some x) = Some (Bytes (spelling (message x)))

abbrev maybe_messages : {A : Type 0} → (A → List Field) → Option A → List (List Field)
maybe_messages message None = []
maybe_messages message (Some x) = fields_of (spelling (message x)) ∷ []

-- what a message in the fields of a number is, from what is asked of those fields
module _ {A : Type 0} (inner : Kind) (whole : List Field → Result (Unit {0}) DecodeFault) (value : List Field → A) (message : A → List Field) where
  one_lacks : (n : ℕ) (fs : List Field) (x : A) → last_value n fs ≡ Some (Bytes (spelling (message x))) → messages_in n fs ≡ fields_of (spelling (message x)) ∷ [] → Says inner whole value (message x) x → one_whole whole n fs ≡ Ok tt
  one_lacks n fs x p q says =
      ap (λ (v : Option Value). cond (is_there v) (whole (joined n fs)) (Ok tt)) p
      ∙ (ap (λ l. whole (together l)) q ∙ one_whole_again inner whole value (message x) x says)

  one_gives : (n : ℕ) (fs : List Field) (x : A) → messages_in n fs ≡ fields_of (spelling (message x)) ∷ [] → Says inner whole value (message x) x → value (joined n fs) ≡ x
  one_gives n fs x q says = ap (λ l. value (together l)) q ∙ one_value_again inner whole value (message x) x says

  maybe_lacks : (Fits : A → Type 0) → ((x : A) → Fits x → Says inner whole value (message x) x) → (n : ℕ) (fs : List Field) (o : Option A) → last_value n fs ≡ maybe_last message o → messages_in n fs ≡ maybe_messages message o → IfSome o Fits → one_whole whole n fs ≡ Ok tt
  maybe_lacks Fits says n fs None p q fits = ap (λ (v : Option Value). cond (is_there v) (whole (joined n fs)) (Ok tt)) p
  maybe_lacks Fits says n fs (Some x) p q fits = one_lacks n fs x p q (says x fits)

  maybe_gives : (Fits : A → Type 0) → ((x : A) → Fits x → Says inner whole value (message x) x) → (n : ℕ) (fs : List Field) (o : Option A) → last_value n fs ≡ maybe_last message o → messages_in n fs ≡ maybe_messages message o → IfSome o Fits → one_in value n fs ≡ o
  maybe_gives Fits says n fs None p q fits = ap (λ (v : Option Value). where_there (is_there v) (value (joined n fs))) p
  maybe_gives Fits says n fs (Some x) p q fits = ap (λ (v : Option Value). where_there (is_there v) (value (joined n fs))) p ∙ ap (λ (y : A). Some y) (one_gives n fs x q (says x fits))

abbrev threads_in : List Thread → List Field
threads_in threads = rows_of kinds.Thread thread_whole thread_of 3 thread_message threads

abbrev images_in : List Image → List Field
images_in images = rows_of kinds.Image image_whole image_of 4 image_message images

-- what stands behind the threads and images
abbrev tail_of : Signal → Option Process → Option Info → List Field
tail_of signal process info = record { number = 6; value = Bytes (spelling (signal_message signal)) } ∷ (maybe_field 7 process_message process ++ (maybe_field 9 info_message info ++ []))

-- threads and images hold nothing of another number
past_last : (n : ℕ) (before : Option Value) (threads : List Thread) (images : List Image) (rest : List Field) → (3 == n) ≡ false → (4 == n) ≡ false → last_or before n (threads_in threads ++ (images_in images ++ rest)) ≡ last_or before n rest
past_last n before threads images rest p q =
    rows_last kinds.Thread thread_whole thread_of thread_message 3 n before threads (images_in images ++ rest) p
    ∙ rows_last kinds.Image image_whole image_of image_message 4 n before images rest q

past_messages : (n : ℕ) (threads : List Thread) (images : List Image) (rest : List Field) → (3 == n) ≡ false → (4 == n) ≡ false → messages_in n (threads_in threads ++ (images_in images ++ rest)) ≡ messages_in n rest
past_messages n threads images rest p q =
    rows_others kinds.Thread thread_whole thread_of thread_message 3 n threads (images_in images ++ rest) p
    ∙ rows_others kinds.Image image_whole image_of image_message 4 n images rest q

-- what stands in the tail, whichever of its parts are there
tail_last : (before : Option Value) (s : Signal) (p : Option Process) (i : Option Info) →
    (last_or before 1 (tail_of s p i) ≡ before) × ((last_or before 2 (tail_of s p i) ≡ before) × ((last_or before 6 (tail_of s p i) ≡ Some (Bytes (spelling (signal_message s)))) × ((last_or None 7 (tail_of s p i) ≡ maybe_last process_message p) × (last_or None 9 (tail_of s p i) ≡ maybe_last info_message i))))
tail_last before s None None = (refl, (refl, (refl, (refl, refl))))
tail_last before s None (Some i) = (refl, (refl, (refl, (refl, refl))))
tail_last before s (Some p) None = (refl, (refl, (refl, (refl, refl))))
tail_last before s (Some p) (Some i) = (refl, (refl, (refl, (refl, refl))))

tail_messages : (s : Signal) (p : Option Process) (i : Option Info) →
    (messages_in 1 (tail_of s p i) ≡ []) × ((messages_in 2 (tail_of s p i) ≡ []) × ((messages_in 3 (tail_of s p i) ≡ []) × ((messages_in 4 (tail_of s p i) ≡ [])
    × ((messages_in 6 (tail_of s p i) ≡ fields_of (spelling (signal_message s)) ∷ []) × ((messages_in 7 (tail_of s p i) ≡ maybe_messages process_message p) × (messages_in 9 (tail_of s p i) ≡ maybe_messages info_message i))))))
tail_messages s None None = (refl, (refl, (refl, (refl, (refl, (refl, refl))))))
tail_messages s None (Some i) = (refl, (refl, (refl, (refl, (refl, (refl, refl))))))
tail_messages s (Some p) None = (refl, (refl, (refl, (refl, (refl, (refl, refl))))))
tail_messages s (Some p) (Some i) = (refl, (refl, (refl, (refl, (refl, (refl, refl))))))

needs_three : (kind : Kind) (l m n : ℕ) (fs : List Field) (u v w : Value) → last_value l fs ≡ Some u → last_value m fs ≡ Some v → last_value n fs ≡ Some w → needs kind (l ∷ m ∷ n ∷ []) fs ≡ Ok tt
needs_three kind l m n fs u v w p q r = rw (p, q, r) refl

report_value : System → Application → List Thread → List Image → Signal → Option Process → Option Info → Report
report_value system application threads images signal process info = record {
  system_info = system;
  application_info = application;
  threads = threads;
  binary_images = images;
  signal = signal;
  process_info = process;
  report_info = info;
}

same_seven : {A B C D E F G H : Type 0} (f : A → B → C → D → E → F → G → H) (a a' : A) (b b' : B) (c c' : C) (d d' : D) (e e' : E) (g g' : F) (h h' : G)
    → a ≡ a' → b ≡ b' → c ≡ c' → d ≡ d' → e ≡ e' → g ≡ g' → h ≡ h' → f a b c d e g h ≡ f a' b' c' d' e' g' h'
same_seven f a a' b b' c c' d d' e e' g g' h h' p q r s t u v =
    ap (λ x. f x b c d e g h) p ∙ (ap (λ x. f a' x c d e g h) q ∙ (ap (λ x. f a' b' x d e g h) r ∙ (ap (λ x. f a' b' c' x e g h) s
    ∙ (ap (λ x. f a' b' c' d' x g h) t ∙ (ap (λ x. f a' b' c' d' e' x h) u ∙ ap (f a' b' c' d' e' g') v)))))

report_of_value : (fs : List Field) → report_of fs ≡ report_value (system_of (joined 1 fs)) (application_of (joined 2 fs)) (map thread_of (messages_in 3 fs)) (map image_of (messages_in 4 fs)) (signal_of (joined 6 fs)) (one_in process_of 7 fs) (one_in info_of 9 fs)
unfolding report_of report_value
report_of_value fs = refl

module _ (r : Report) (h : FitsReport r) where
  abbrev tail : List Field
  tail = tail_of r.signal r.process_info r.report_info

  abbrev root_fields : List Field
  root_fields =
      record { number = 1; value = Bytes (spelling (system_message r.system_info)) } ∷ (record { number = 2; value = Bytes (spelling (application_message r.application_info)) }
      ∷ (threads_in r.threads ++ (images_in r.binary_images ++ tail)))

  last_1 : last_value 1 root_fields ≡ Some (Bytes (spelling (system_message r.system_info)))
  last_1 = past_last 1 (Some (Bytes (spelling (system_message r.system_info)))) r.threads r.binary_images tail refl refl ∙ (tail_last (Some (Bytes (spelling (system_message r.system_info)))) r.signal r.process_info r.report_info).0

  last_2 : last_value 2 root_fields ≡ Some (Bytes (spelling (application_message r.application_info)))
  last_2 = past_last 2 (Some (Bytes (spelling (application_message r.application_info)))) r.threads r.binary_images tail refl refl ∙ (tail_last (Some (Bytes (spelling (application_message r.application_info)))) r.signal r.process_info r.report_info).1.0

  last_6 : last_value 6 root_fields ≡ Some (Bytes (spelling (signal_message r.signal)))
  last_6 = past_last 6 None r.threads r.binary_images tail refl refl ∙ (tail_last None r.signal r.process_info r.report_info).1.1.0

  last_7 : last_value 7 root_fields ≡ maybe_last process_message r.process_info
  last_7 = past_last 7 None r.threads r.binary_images tail refl refl ∙ (tail_last None r.signal r.process_info r.report_info).1.1.1.0

  last_9 : last_value 9 root_fields ≡ maybe_last info_message r.report_info
  last_9 = past_last 9 None r.threads r.binary_images tail refl refl ∙ (tail_last None r.signal r.process_info r.report_info).1.1.1.1

  in_1 : messages_in 1 root_fields ≡ fields_of (spelling (system_message r.system_info)) ∷ []
  in_1 = ap (λ l. fields_of (spelling (system_message r.system_info)) ∷ l) (past_messages 1 r.threads r.binary_images tail refl refl ∙ (tail_messages r.signal r.process_info r.report_info).0)

  in_2 : messages_in 2 root_fields ≡ fields_of (spelling (application_message r.application_info)) ∷ []
  in_2 = ap (λ l. fields_of (spelling (application_message r.application_info)) ∷ l) (past_messages 2 r.threads r.binary_images tail refl refl ∙ (tail_messages r.signal r.process_info r.report_info).1.0)

  in_3 : messages_in 3 root_fields ≡ map thread_message r.threads
  in_3 = rows_messages kinds.Thread thread_whole thread_of thread_message FitsThread thread_says 3 r.threads (images_in r.binary_images ++ tail) refl h.threads
      ∙ (ap (λ l. map thread_message r.threads ++ l) (rows_others kinds.Image image_whole image_of image_message 4 3 r.binary_images tail refl ∙ (tail_messages r.signal r.process_info r.report_info).1.1.0)
      ∙ append-nil (map thread_message r.threads))

  in_4 : messages_in 4 root_fields ≡ map image_message r.binary_images
  in_4 = rows_others kinds.Thread thread_whole thread_of thread_message 3 4 r.threads (images_in r.binary_images ++ tail) refl
      ∙ (rows_messages kinds.Image image_whole image_of image_message FitsImage image_says 4 r.binary_images tail refl h.binary_images
      ∙ (ap (λ l. map image_message r.binary_images ++ l) (tail_messages r.signal r.process_info r.report_info).1.1.1.0 ∙ append-nil (map image_message r.binary_images)))

  in_6 : messages_in 6 root_fields ≡ fields_of (spelling (signal_message r.signal)) ∷ []
  in_6 = past_messages 6 r.threads r.binary_images tail refl refl ∙ (tail_messages r.signal r.process_info r.report_info).1.1.1.1.0

  in_7 : messages_in 7 root_fields ≡ maybe_messages process_message r.process_info
  in_7 = past_messages 7 r.threads r.binary_images tail refl refl ∙ (tail_messages r.signal r.process_info r.report_info).1.1.1.1.1.0

  in_9 : messages_in 9 root_fields ≡ maybe_messages info_message r.report_info
  in_9 = past_messages 9 r.threads r.binary_images tail refl refl ∙ (tail_messages r.signal r.process_info r.report_info).1.1.1.1.1.1

  root_good : AreGood kinds.Root root_fields
  root_good = (
    good_message kinds.System system_whole system_of kinds.Root 1 (system_message r.system_info) r.system_info refl refl (system_says r.system_info h.system_info),
    (
      good_message kinds.Application application_whole application_of kinds.Root 2 (application_message r.application_info) r.application_info refl refl (application_says r.application_info h.application_info),
      good_append kinds.Root (threads_in r.threads) _ (good_rows kinds.Thread thread_whole thread_of thread_message FitsThread thread_says kinds.Root 3 r.threads refl refl h.threads)
          (good_append kinds.Root (images_in r.binary_images) _ (good_rows kinds.Image image_whole image_of image_message FitsImage image_says kinds.Root 4 r.binary_images refl refl h.binary_images) (
            good_message kinds.Signal signal_whole signal_of kinds.Root 6 (signal_message r.signal) r.signal refl refl (signal_says r.signal h.signal),
            good_maybe_message kinds.Process process_whole process_of process_message FitsProcess process_says kinds.Root 7 r.process_info _ refl refl h.process_info
                (good_maybe_message kinds.Info info_whole info_of info_message FitsInfo info_says kinds.Root 9 r.report_info [] refl refl h.report_info tt),
          )),
    ),
  )

report_lacks : (r : Report) (h : FitsReport r) → report_whole (root_fields r h) ≡ Ok tt
unfolding report_whole
report_lacks r h =
    let fs : List Field = root_fields r h in
    then_ok _ _ (needs_three kinds.Root 1 2 6 fs _ _ _ (last_1 r h) (last_2 r h) (last_6 r h))
    (then_ok _ _ (one_lacks kinds.System system_whole system_of system_message 1 fs r.system_info (last_1 r h) (in_1 r h) (system_says r.system_info h.system_info))
    (then_ok _ _ (one_lacks kinds.Application application_whole application_of application_message 2 fs r.application_info (last_2 r h) (in_2 r h) (application_says r.application_info h.application_info))
    (then_ok _ _ (ap (each_whole thread_whole) (in_3 r h) ∙ rows_whole kinds.Thread thread_whole thread_of thread_message FitsThread thread_says r.threads h.threads)
    (then_ok _ _ (ap (each_whole image_whole) (in_4 r h) ∙ rows_whole kinds.Image image_whole image_of image_message FitsImage image_says r.binary_images h.binary_images)
    (then_ok _ _ (one_lacks kinds.Signal signal_whole signal_of signal_message 6 fs r.signal (last_6 r h) (in_6 r h) (signal_says r.signal h.signal))
    (then_ok _ _ (maybe_lacks kinds.Process process_whole process_of process_message FitsProcess process_says 7 fs r.process_info (last_7 r h) (in_7 r h) h.process_info)
    (maybe_lacks kinds.Info info_whole info_of info_message FitsInfo info_says 9 fs r.report_info (last_9 r h) (in_9 r h) h.report_info)))))))

report_gives : (r : Report) (h : FitsReport r) → report_of (root_fields r h) ≡ report_value r.system_info r.application_info r.threads r.binary_images r.signal r.process_info r.report_info
report_gives r h =
    let fs : List Field = root_fields r h in
    report_of_value fs
    ∙ same_seven report_value _ _ _ _ _ _ _ _ _ _ _ _ _ _
    (one_gives kinds.System system_whole system_of system_message 1 fs r.system_info (in_1 r h) (system_says r.system_info h.system_info))
    (one_gives kinds.Application application_whole application_of application_message 2 fs r.application_info (in_2 r h) (application_says r.application_info h.application_info))
    (ap (map thread_of) (in_3 r h) ∙ rows_values kinds.Thread thread_whole thread_of thread_message FitsThread thread_says r.threads h.threads)
    (ap (map image_of) (in_4 r h) ∙ rows_values kinds.Image image_whole image_of image_message FitsImage image_says r.binary_images h.binary_images)
    (one_gives kinds.Signal signal_whole signal_of signal_message 6 fs r.signal (in_6 r h) (signal_says r.signal h.signal))
    (maybe_gives kinds.Process process_whole process_of process_message FitsProcess process_says 7 fs r.process_info (last_7 r h) (in_7 r h) h.process_info)
    (maybe_gives kinds.Info info_whole info_of info_message FitsInfo info_says 9 fs r.report_info (last_9 r h) (in_9 r h) h.report_info)

-- the root message of a file that was spelled
root_again : (r : Report) → root_of (spelling_of r) ≡ Ok (spelling (report_message r))
unfolding root_of spelling_of
root_again r = refl

fields_are : (r : Report) (h : FitsReport r) → report_message r ≡ root_fields r h
unfolding report_message
fields_are r h = refl

then_next : (end : ℕ) (fs : List Field) → AreGood kinds.Root fs → (scan kinds.Root end (spelling fs) >>= λ u. (whole kinds.Root (fields_of (spelling fs)) >>= λ u. Ok (report_of (fields_of (spelling fs)))))
    ≡ (whole kinds.Root (fields_of (spelling fs)) >>= λ u. Ok (report_of (fields_of (spelling fs))))
then_next end fs good = ap (λ (w : Result (Unit {0}) DecodeFault). w >>= λ u. (whole kinds.Root (fields_of (spelling fs)) >>= λ u. Ok (report_of (fields_of (spelling fs))))) (scan_again kinds.Root end fs good)

reads_root : (end : ℕ) (fs : List Field) (r : Report) → AreGood kinds.Root fs → whole kinds.Root fs ≡ Ok tt → report_of fs ≡ r
    → (scan kinds.Root end (spelling fs) >>= λ u. (whole kinds.Root (fields_of (spelling fs)) >>= λ u. Ok (report_of (fields_of (spelling fs))))) ≡ Ok r
reads_root end fs r good lacks gives =
    then_next end fs good
    ∙ (ap (λ (l : List Field). whole kinds.Root l >>= λ u. Ok (report_of l)) (fields_again kinds.Root fs good)
    ∙ (ap (λ (w : Result (Unit {0}) DecodeFault). w >>= λ u. Ok (report_of fs)) lacks ∙ ap (λ (x : Report). Ok x) gives))

pub report_again : (r : Report) → FitsReport r → reads (spelling_of r) ≡ Ok r
unfolding reads report_value
report_again r h =
    ap (λ (m : Result (List ℕ) DecodeFault). m >>= λ root. (scan kinds.Root (length (spelling_of r)) root >>= λ u. (whole kinds.Root (fields_of root) >>= λ u. Ok (report_of (fields_of root))))) (root_again r)
    ∙ (ap (λ (fs : List Field). scan kinds.Root (length (spelling_of r)) (spelling fs) >>= λ u. (whole kinds.Root (fields_of (spelling fs)) >>= λ u. Ok (report_of (fields_of (spelling fs))))) (fields_are r h)
    ∙ reads_root (length (spelling_of r)) (root_fields r h) r (root_good r h) (root_written (root_fields r h) ∙ report_lacks r h) (report_gives r h))
