-- A worker's pass is handed out, and taken in.
use Rattle.std.proofs.Common.{◌≡◌, ◌≢◌, ℕ, zero, suc, ◌<◌, ◌⊎◌, inl, inr, ⊎_elim, true, false, cond, eqb, List, [], ◌∷◌, ◌++◌, length, set, Option, Some, None, refl, sym, ap, ◌∙◌, subst, arith, length-set}
use mathlib.Core.Option.{some}
use mathlib.Core.List.{IsPrefix}
use lib.ListN.{get_elem?}
use Rattle.crossbeam_queue.specs.Fifo.{Forks, Merges}
use Rattle.crossbeam_queue.proofs.Lists.{at_set, set_here, set_else, at_longer, at_last}
use Rattle.plcr_machine.proofs.Cases.{at_or_else, not_both, by_cases, eqb_same}
use Rattle.plcr_nodes.proofs.Opening.{at_within, at_snoc_place}
use Rattle.plcr_turns.specs.declared.view.View.{View}
use Rattle.plcr_turns.specs.declared.view.Share.{Share}
use Rattle.plcr_turns.specs.declared.view.Role.{Role}
use Rattle.plcr_turns.specs.declared.view.Role.TheVariants.{Chief, Worker, Spent}
use Rattle.plcr_turns.specs.Turns.{TurnState}
use Rattle.plcr_turns.specs.Views.{has_share, first_view, left_view, worker_view, both_view, spent_view, first_share, later_shares, Agrees, AllBegin, IsUnspent, is_unspent}
use Rattle.plcr_turns.specs.Rule.{Truth, Fits, IsInQueue, IsWithPass, HasOwner, IsNew, IsGoing, IsKept, IsWhose, Belong, AreApart}
use Rattle.plcr_turns.proofs.Shares.{begin_both, belong_to, belong_if, agrees_both, apart_both, has_first, has_later, has_cases, has_left, has_right, has_other, other_of}
use Rattle.plcr_turns.proofs.Views.{only_one, all_set, chief_not_fresh, has_and_not, same_view, owned_set}
use Rattle.plcr_turns.proofs.Going.{not_among}

-- ---- handed out

-- one script belongs to another pass
abbrev gone : (ℕ → ℕ) → ℕ → ℕ → ℕ → ℕ
gone owner script to i = cond (eqb i script) to (owner i)

gone_here : (owner : ℕ → ℕ) (script to : ℕ) → gone owner script to script ≡ to
gone_here owner script to = ap (λ b. cond b to (owner script)) (eqb_same script)

gone_else : (owner : ℕ → ℕ) (script to i : ℕ) → i ≢ script → gone owner script to i ≡ owner i
gone_else owner script to i apart = at_or_else i script (λ e. absurd (apart e)) (λ f. ap (λ b. cond b to (owner i)) f)

module _ (port : ℕ) (v : View) (share : Share) (shares : List Share) (is : v.shares ≡ share ∷ shares) (role : v.role ≡ Chief) (idle : v.turn ≡ None) where
  abbrev left : View
  left = record v { shares = shares }

  abbrev right : View
  right = record v { role = Worker; joined = []; shares = share ∷ [] }

  -- the script is not one of the others
  first_alone : (t : Truth) → Fits t port v → (script : ℕ) → has_share script shares ≡ true → script ≢ share.script
  first_alone t f script h e = not_both _ (subst (λ s. has_share s shares ≡ true) e h) (subst (λ (l : List Share). AreApart l) is f.apart).0

  left_fits : (t : Truth) (k : ℕ) → Fits t port v → Fits (record t { owner = gone t.owner share.script k }) port left
  left_fits t k f =
      let b : Belong t.owner port (share ∷ shares) = subst (λ (l : List Share). Belong t.owner port l) is f.scripts in
      record {
        list = f.list;
        sizes = f.sizes;
        count = f.count;
        whose = subst (λ r. IsWhose t.chief port r shares) (sym role) (subst (λ r. IsWhose t.chief port r v.shares) role f.whose);
        scripts = belong_if (gone t.owner share.script k) port shares (λ script h. gone_else t.owner share.script k script (first_alone t f script h) ∙ belong_to t.owner port shares b.1 script h);
        apart = (subst (λ (l : List Share). AreApart l) is f.apart).1;
        seen = f.seen;
        joined = f.joined;
        progress = (subst (λ (l : List Share). Agrees t.face.parts l) is f.progress).1;
      }

  right_fits : (t : Truth) (k : ℕ) → port ≢ k → Fits t port v → Fits (record t { owner = gone t.owner share.script k }) k right
  right_fits t k away f = record {
    list = f.list;
    sizes = f.sizes;
    count = f.count;
    whose = ((λ e. away (sym (e ∙ sym (subst (λ r. IsWhose t.chief port r v.shares) role f.whose)))), λ e. absurd (let e' : 1 ≡ 0 = ap length e in omega arith));
    scripts = (gone_here t.owner share.script k, tt);
    apart = (refl, tt);
    seen = f.seen;
    joined = tt;
    progress = ((subst (λ (l : List Share). Agrees t.face.parts l) is f.progress).0, tt);
  }

  other_fits : (t : Truth) (k j : ℕ) (u : View) → j ≢ port → Fits t port v → Fits t j u → Fits (record t { owner = gone t.owner share.script k }) j u
  other_fits t k j u away f g = record {
    list = g.list;
    sizes = g.sizes;
    count = g.count;
    whose = g.whose;
    scripts = belong_if (gone t.owner share.script k) j u.shares (λ script h.
        gone_else t.owner share.script k script
        (λ e. not_both _ (subst (λ (l : List Share). has_share script l ≡ true) (sym is) (subst (λ s. has_share s (share ∷ shares) ≡ true) (sym e) (has_first share shares))) (not_among t port j v u f g away script h))
        ∙ belong_to t.owner j u.shares g.scripts script h);
    apart = g.apart;
    seen = g.seen;
    joined = g.joined;
    progress = g.progress;
  }

  -- what holds of the two and of all others holds of all
  all_forked : (F : ℕ → View → Type 0) (views : List View) → F port left → F (length (set views port left)) right → ((j : ℕ) (u : View) → j ≢ port → get_elem? views j ≡ some u → IsUnspent u → F j u)
      → (j : ℕ) (u : View) → get_elem? (set views port left ++ right ∷ []) j ≡ some u → IsUnspent u → F j u
  all_forked F views a b others j u at live =
      ⊎_elim (λ x. all_set F views port left (λ _. a) others j u x.1 live)
      (λ x. subst (λ (y : ℕ × View). F y.0 y.1) (λ i. (sym x.0 i, x.1 i)) b)
      (at_snoc_place (set views port left) right u j at)

  owned_forked : (t : Truth) (views : List View) → get_elem? views port ≡ some v → IsUnspent v → Fits t port v → (script : ℕ) → HasOwner t.owner views script
      → HasOwner (gone t.owner share.script (length (set views port left))) (set views port left ++ right ∷ []) script
  owned_forked t views at live f script h =
      let k = length (set views port left) in
      at_or_else script share.script
      (λ e. record {
        view = right;
        there = at_last (set views port left) right (gone t.owner share.script k script) (sym (ap (gone t.owner share.script k) e ∙ gone_here t.owner share.script k));
        unspent = refl;
        has = subst (λ s. has_share s (share ∷ []) ≡ true) (sym e) (has_first share []);
      })
      (λ f'.
      let apart : script ≢ share.script = other_of script share.script f' in
      let set_there = owned_set t.owner views port v left script at
      (λ a. (live, has_cases script share shares (subst (λ (l : List Share). has_share script l ≡ true) is a) (λ e. absurd (apart (sym e))) (λ l. l))) h in
      record {
        view = set_there.view;
        there = at_longer (set views port left) (right ∷ []) (gone t.owner share.script k script) set_there.view (ap (get_elem? (set views port left)) (gone_else t.owner share.script k script apart) ∙ set_there.there);
        unspent = set_there.unspent;
        has = set_there.has;
      })

  forked : (items : List TurnState) (views : List View) → IsGoing items views → get_elem? views port ≡ some v → IsGoing items (set views port left ++ right ∷ [])
  forked items views g at =
      let t = g.truth in
      let k = length (set views port left) in
      let live : IsUnspent v = ap is_unspent role in
      let f = g.fits port v at live in
      let away : port ≢ k = λ e. (let w = at_within views v port at in let l = length-set views port left in absurd (omega arith)) in
      record {
        truth = record t { owner = gone t.owner share.script k };
        place = ⊎_elim
            (λ (q : IsInQueue t items views). inl (record { turn = q.turn; items_are = q.items_are; list = q.list; sizes = q.sizes; face = q.face; nobody = all_forked (λ j u. u.turn ≡ None) views idle idle (λ j u _ there lives. q.nobody j u there lives) }))
            (λ (p : IsWithPass t items views).
            let elsewhere : p.who ≢ port = λ e. has_and_not v.turn t.face (ap (λ (u : View). u.turn) (same_view views port v p.view at (subst (λ n. get_elem? views n ≡ some p.view) e p.there)) ∙ p.has) idle in
            inr (record {
              empty = p.empty;
              who = p.who;
              view = p.view;
              there = at_longer (set views port left) (right ∷ []) p.who p.view (set_else views port p.who left elsewhere ∙ p.there);
              unspent = p.unspent;
              has = p.has;
              only = all_forked (λ j u. j ≢ p.who → u.turn ≡ None) views (λ _. idle) (λ _. idle) (λ j u _ there lives no. p.only j u there lives no);
            }))
            g.place;
        fits = all_forked (Fits (record t { owner = gone t.owner share.script k })) views (left_fits t k f) (right_fits t k away f) (λ j u apart there lives. other_fits t k j u apart f (g.fits j u there lives));
        owned = λ script few. owned_forked t views at live f script (g.owned script few);
      }

-- shares that are some have a first
split : (P : List Share → Type 0) (shares : List Share) → shares ≢ [] → ((share : Share) (others : List Share) → shares ≡ share ∷ others → P (share ∷ others)) → P shares
split P [] full f = absurd (full refl)
split P (share ∷ others) full f = f share others refl

pub hands : (port : ℕ) (v : View) → v.role ≡ Chief → v.turn ≡ None → v.shares ≢ [] → Forks IsKept port v (left_view v) (worker_view v)
hands port v role idle full items views kept at =
    ⊎_elim
    (λ (new : IsNew items views). absurd (chief_not_fresh v (only_one first_view v port (subst (λ vs. get_elem? vs port ≡ some v) new.alone at)).1 role))
    (λ (g : IsGoing items views). inr (split (λ l. IsGoing items (set views port (record v { shares = later_shares l }) ++ record v { role = Worker; joined = []; shares = first_share l } ∷ [])) v.shares full (λ share shares is. forked port v share shares is role idle items views g at)))
    kept

-- ---- taken in

-- some scripts belong to another pass
abbrev gained : (ℕ → ℕ) → List Share → ℕ → ℕ → ℕ
gained owner shares to i = cond (has_share i shares) to (owner i)

gained_here : (owner : ℕ → ℕ) (shares : List Share) (to i : ℕ) → has_share i shares ≡ true → gained owner shares to i ≡ to
gained_here owner shares to i h = ap (λ b. cond b to (owner i)) h

gained_else : (owner : ℕ → ℕ) (shares : List Share) (to i : ℕ) → has_share i shares ≡ false → gained owner shares to i ≡ owner i
gained_else owner shares to i h = ap (λ b. cond b to (owner i)) h

module _ (port other : ℕ) (v w : View) (role : v.role ≡ Chief) (idle : v.turn ≡ None) (theirs : is_unspent w.role ≡ true) (rests : w.turn ≡ None) (apart : other ≢ port) where
  both_fits : (t : Truth) → Fits t port v → Fits t other w → Fits (record t { owner = gained t.owner w.shares port }) port (both_view v w)
  both_fits t f g = record {
    list = f.list;
    sizes = f.sizes;
    count = f.count;
    whose = subst (λ r. IsWhose t.chief port r (w.shares ++ v.shares)) (sym role) (subst (λ r. IsWhose t.chief port r v.shares) role f.whose);
    scripts = belong_if (gained t.owner w.shares port) port (w.shares ++ v.shares) (λ script h.
        by_cases (has_share script w.shares) (λ a. gained_here t.owner w.shares port script a)
        (λ b. gained_else t.owner w.shares port script b ∙ belong_to t.owner port v.shares f.scripts script (has_other script w.shares v.shares h b)));
    apart = apart_both w.shares v.shares g.apart f.apart (λ script h. not_among t port other v w f g apart script h);
    seen = f.seen;
    joined = (g.seen, begin_both w.joined v.joined t.face.journal g.joined f.joined);
    progress = agrees_both t.face.parts w.shares v.shares g.progress f.progress;
  }

  still_fits : (t : Truth) (j : ℕ) (u : View) → j ≢ other → Fits t other w → Fits t j u → Fits (record t { owner = gained t.owner w.shares port }) j u
  still_fits t j u away g f = record {
    list = f.list;
    sizes = f.sizes;
    count = f.count;
    whose = f.whose;
    scripts = belong_if (gained t.owner w.shares port) j u.shares (λ script h.
        gained_else t.owner w.shares port script (not_among t other j w u g f away script h) ∙ belong_to t.owner j u.shares f.scripts script h);
    apart = f.apart;
    seen = f.seen;
    joined = f.joined;
    progress = f.progress;
  }

  -- what holds of the one and of all others but the one that was taken in holds of all
  all_merged : (F : ℕ → View → Type 0) (views : List View) → F port (both_view v w) → ((j : ℕ) (u : View) → j ≢ port → j ≢ other → get_elem? views j ≡ some u → IsUnspent u → F j u)
      → (j : ℕ) (u : View) → get_elem? (set (set views port (both_view v w)) other spent_view) j ≡ some u → IsUnspent u → F j u
  all_merged F views a others j u at live =
      all_set F (set views port (both_view v w)) other spent_view (λ dead. not_both false dead refl)
      (λ i x away there lives.
      all_set (λ n y. n ≢ other → F n y) views port (both_view v w) (λ _ _. a) (λ n y no_port here alive no_other. others n y no_port no_other here alive) i x there lives away)
      j u at live

  owned_merged : (t : Truth) (views : List View) → get_elem? views port ≡ some v → get_elem? views other ≡ some w → (script : ℕ) → HasOwner t.owner views script
      → HasOwner (gained t.owner w.shares port) (set (set views port (both_view v w)) other spent_view) script
  owned_merged t views at there script h =
      let both = both_view v w in
      let live : IsUnspent v = ap is_unspent role in
      let at_port : get_elem? (set (set views port both) other spent_view) port ≡ some both = set_else (set views port both) other port spent_view (λ e. apart (sym e)) ∙ set_here views port both (at_within views v port at) in
      by_cases (has_share script w.shares)
      (λ a. record { view = both; there = ap (get_elem? (set (set views port both) other spent_view)) (gained_here t.owner w.shares port script a) ∙ at_port; unspent = live; has = has_left script w.shares v.shares a })
      (λ b.
      let same = gained_else t.owner w.shares port script b in
      let not_theirs : t.owner script ≢ other = λ e. not_both _ (subst (λ (u : View). has_share script u.shares ≡ true) (same_view views other h.view w (subst (λ n. get_elem? views n ≡ some h.view) e h.there) there) h.has) b in
      let first = owned_set t.owner views port v both script at (λ c. (live, has_right script w.shares v.shares c)) h in
      record {
        view = first.view;
        there = ap (get_elem? (set (set views port both) other spent_view)) same ∙ set_else (set views port both) other (t.owner script) spent_view not_theirs ∙ first.there;
        unspent = first.unspent;
        has = first.has;
      })

  merged : (items : List TurnState) (views : List View) → IsGoing items views → get_elem? views port ≡ some v → get_elem? views other ≡ some w → IsGoing items (set (set views port (both_view v w)) other spent_view)
  merged items views g at there =
      let t = g.truth in
      let both = both_view v w in
      let f = g.fits port v at (ap is_unspent role) in
      let their = g.fits other w there theirs in
      record {
        truth = record t { owner = gained t.owner w.shares port };
        place = ⊎_elim
            (λ (q : IsInQueue t items views). inl (record { turn = q.turn; items_are = q.items_are; list = q.list; sizes = q.sizes; face = q.face; nobody = all_merged (λ j u. u.turn ≡ None) views idle (λ j u _ _ here lives. q.nobody j u here lives) }))
            (λ (p : IsWithPass t items views).
            let not_mine : p.who ≢ port = λ e. has_and_not v.turn t.face (ap (λ (u : View). u.turn) (same_view views port v p.view at (subst (λ n. get_elem? views n ≡ some p.view) e p.there)) ∙ p.has) idle in
            let not_theirs : p.who ≢ other = λ e. has_and_not w.turn t.face (ap (λ (u : View). u.turn) (same_view views other w p.view there (subst (λ n. get_elem? views n ≡ some p.view) e p.there)) ∙ p.has) rests in
            inr (record {
              empty = p.empty;
              who = p.who;
              view = p.view;
              there = set_else (set views port both) other p.who spent_view not_theirs ∙ set_else views port p.who both not_mine ∙ p.there;
              unspent = p.unspent;
              has = p.has;
              only = all_merged (λ j u. j ≢ p.who → u.turn ≡ None) views (λ _. idle) (λ j u _ _ here lives away. p.only j u here lives away);
            }))
            g.place;
        fits = all_merged (Fits (record t { owner = gained t.owner w.shares port })) views (both_fits t f their) (λ j u _ away here lives. still_fits t j u away their (g.fits j u here lives));
        owned = λ script few. owned_merged t views at there script (g.owned script few);
      }

pub joins : (port : ℕ) (v : View) (other : ℕ) (w : View) → v.role ≡ Chief → v.turn ≡ None → w.role ≡ Worker → w.turn ≡ None → Merges IsKept port v other w (both_view v w) spent_view
joins port v other w role idle worker rests items views kept at apart there =
    ⊎_elim
    (λ (new : IsNew items views). absurd (chief_not_fresh v (only_one first_view v port (subst (λ vs. get_elem? vs port ≡ some v) new.alone at)).1 role))
    (λ (g : IsGoing items views). inr (merged port other v w role idle (ap is_unspent worker) rests apart items views g at
    (⊎_elim (λ x. absurd (apart x.0)) (λ x. x.1) (at_set views port other (both_view v w) w there))))
    kept
