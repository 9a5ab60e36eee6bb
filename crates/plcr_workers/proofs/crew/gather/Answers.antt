use Rattle.std.proofs.Common.{◌≡◌, ◌++◌, ◌∷◌, [], All, List, Option, length, reverse, ◌∙◌, ap, sym, subst, refl, arith}
use Rattle.std.specs.Prelude.{IfSome}
use Rattle.std.proofs.lemmas.List.{reverse-reverse}
use Rattle.crossbeam_queue.specs.Passes.{view}
use Rattle.plcr_imagelist.specs.Holds.{WalkerState}
use Rattle.plcr_turns.specs.Gathering.{HasGathered}
use Rattle.plcr_turns.proofs.Fronts.{all_front, all_last}
use Rattle.plcr_turns.proofs.Gathered.{gathers_next}
use Rattle.plcr_workers.specs.declared.worker.Worker.{Worker}
use Rattle.plcr_workers.specs.inner.Hired.{IsGone, lines_left, views_of}
use Rattle.plcr_workers.proofs.Crews.{AreIn, nobody_in, one_in, last_in, none_left, again}
use Rattle.plcr_turns.specs.declared.view.View.{View}
use Rattle.plcr_workers.proofs.crew.gather.Goals as goal

pub take_in-requires-clause-queue : goal.take_in-requires-clause-queue
take_in-requires-clause-queue g c =
    let gone = all_last (λ w. IsGone c.args.queue.now.table.shared.table_id c.args.list.now c.args.scripts.now w) c.pop.new.self.items c.in-Some.worker
    (subst (All (λ w. IsGone c.args.queue.now.table.shared.table_id c.args.list.now c.args.scripts.now w)) c.in-Some.ensures.items c.loop-worker.invariant.gone) in
    ((c.loop-worker.invariant.same.0 ∙ c.requires.queue.0, c.loop-worker.invariant.same.2 ∙ c.requires.queue.1), gone.pass)

pub take_in-requires-clause-chief : goal.take_in-requires-clause-chief
take_in-requires-clause-chief g c = (c.loop-worker.invariant.are_in.are_in.gathered.role, c.loop-worker.invariant.are_in.are_in.gathered.turn)

pub take_in-requires-clause-worker : goal.take_in-requires-clause-worker
take_in-requires-clause-worker g c =
    let gone = all_last (λ w. IsGone c.args.queue.now.table.shared.table_id c.args.list.now c.args.scripts.now w) c.pop.new.self.items c.in-Some.worker
    (subst (All (λ w. IsGone c.args.queue.now.table.shared.table_id c.args.list.now c.args.scripts.now w)) c.in-Some.ensures.items c.loop-worker.invariant.gone) in
    (gone.so_far.working.role, gone.so_far.working.turn)

pub loop-worker-preserved : goal.loop-worker-preserved
loop-worker-preserved g c =
    let queue = c.args.queue.now.table.shared.table_id in
    let list = c.args.list.now in
    let scripts = c.args.scripts.now in
    let worker = c.in-Some.worker in
    let all = subst (All (λ w. IsGone queue list scripts w)) c.in-Some.ensures.items c.loop-worker.invariant.gone in
    let gone = all_last (λ w. IsGone queue list scripts w) c.pop.new.self.items worker all in
    let was = c.loop-worker.invariant.are_in.are_in in
    let image = gone.image.image in
    let are_in = subst (λ (l : List (Worker _)). AreIn (length scripts) list c.args.workers.items l c.loop-worker.invariant.are_in.taken (view c.loop-worker.chief) c.loop-worker.left.images.items c.loop-worker.left.drafts.items c.loop-worker.left.others.items) c.in-Some.ensures.items was in
    let gathered = subst (HasGathered (length scripts) list (view worker.turns ∷ views_of c.loop-worker.invariant.are_in.taken)) (sym c.take_in.ensures.both)
    (gathers_next (length scripts) worker.script list (view worker.turns) (views_of c.loop-worker.invariant.are_in.taken) (view c.loop-worker.chief) was.gathered gone.so_far.working) in
    let next = one_in queue (length scripts) list scripts c.args.workers.items c.pop.new.self.items c.loop-worker.invariant.are_in.taken worker (view c.loop-worker.chief) (view c.take_in.new.pass) c.loop-worker.left.images.items image
    c.loop-worker.left.drafts.items c.turned_round.result c.loop-worker.left.others.items are_in gone gathered gone.image.held gone.image.walks gone.image.number c.turned_round.ensures in
    let added : c.add_image.new.images.items ≡ c.loop-worker.left.images.items ++ image ∷ [] = subst (λ (o : Option WalkerState). IfSome o (λ i. c.add_image.new.images.items ≡ c.loop-worker.left.images.items ++ i ∷ [])) gone.image.held c.add_image.ensures.added in
    let length_of = c.in-Some.ensures.len in
    let same = c.take_in.ensures.queue in
    let before = c.loop-worker.invariant.same in
    record {
      same = (same.0 ∙ before.0, same.1 ∙ before.1, same.2 ∙ before.2);
      sizes = (
        ap (λ (v : View). v.nodes) c.take_in.ensures.both ∙ c.loop-worker.invariant.sizes.0,
        ap (λ (v : View). v.passes) c.take_in.ensures.both ∙ c.loop-worker.invariant.sizes.1,
      );
      gone = all_front (λ w. IsGone queue list scripts w) c.pop.new.self.items (worker ∷ []) all;
      are_in = record { taken = worker ∷ c.loop-worker.invariant.are_in.taken; are_in = rw added (rw c.push_reserved.ensures.items (rw c.push_reserved-in-Some.ensures.items next)) };
      images_room = (let a = c.add_image.ensures.len in let b = c.add_image.ensures.capacity in let r = c.loop-worker.invariant.images_room in omega (arith, a, b, r, length_of));
      drafts_room = (let a = c.push_reserved-in-Some.ensures.len in let b = c.push_reserved-in-Some.ensures.capacity in let r = c.loop-worker.invariant.drafts_room in omega (arith, a, b, r, length_of));
      others_room = (let a = c.push_reserved.ensures.len in let b = c.push_reserved.ensures.capacity in let r = c.loop-worker.invariant.others_room in omega (arith, a, b, r, length_of));
    }

pub loop-worker-init : goal.loop-worker-init
loop-worker-init g c =
    let images : c.args.room.images.items ≡ [] = none_left c.args.room.images.items (let o = c.args.room.images.ok.0 in let n = c.requires.none.0 in omega (arith, o, n)) in
    let drafts : c.args.room.drafts.items ≡ [] = none_left c.args.room.drafts.items (let o = c.args.room.drafts.ok.0 in let n = c.requires.none.1 in omega (arith, o, n)) in
    let others : c.args.room.others.items ≡ [] = none_left c.args.room.others.items (let o = c.args.room.others.ok.0 in let n = c.requires.none.2 in omega (arith, o, n)) in
    let many : length c.args.workers.items ≡ length c.args.scripts.now = (let o = c.args.workers.ok.0 in let n = c.requires.count in omega (arith, o, n)) in
    record {
      same = (refl, refl, refl);
      sizes = (refl, refl);
      gone = c.requires.gone;
      are_in = record { taken = []; are_in = rw images (rw drafts (rw others (nobody_in (length c.args.scripts.now) c.args.list.now c.args.workers.items (view c.args.chief.now) many c.requires.numbers c.requires.chief))) };
      images_room = c.requires.images_room;
      drafts_room = c.requires.drafts_room;
      others_room = c.requires.others_room;
    }

pub returns-clause-chief : goal.returns-clause-chief
returns-clause-chief g c =
    let done = last_in (length c.args.scripts.now) c.args.list.now c.args.workers.items c.loop-worker.workers.items (view c.loop-worker.chief) c.loop-worker.left.images.items c.loop-worker.left.drafts.items c.loop-worker.left.others.items
    (let o = c.loop-worker.workers.ok.0 in let n = c.in_default.ensures.cases.0 in omega (arith, o, n)) (let o = c.args.workers.ok.0 in let n = c.requires.count in omega (arith, o, n)) c.loop-worker.invariant.are_in in
    done.gathered

pub returns-clause-working : goal.returns-clause-working
returns-clause-working g c =
    let done = last_in (length c.args.scripts.now) c.args.list.now c.args.workers.items c.loop-worker.workers.items (view c.loop-worker.chief) c.loop-worker.left.images.items c.loop-worker.left.drafts.items c.loop-worker.left.others.items
    (let o = c.loop-worker.workers.ok.0 in let n = c.in_default.ensures.cases.0 in omega (arith, o, n)) (let o = c.args.workers.ok.0 in let n = c.requires.count in omega (arith, o, n)) c.loop-worker.invariant.are_in in
    done.working

pub returns-clause-all : goal.returns-clause-all
returns-clause-all g c =
    let done = last_in (length c.args.scripts.now) c.args.list.now c.args.workers.items c.loop-worker.workers.items (view c.loop-worker.chief) c.loop-worker.left.images.items c.loop-worker.left.drafts.items c.loop-worker.left.others.items
    (let o = c.loop-worker.workers.ok.0 in let n = c.in_default.ensures.cases.0 in omega (arith, o, n)) (let o = c.args.workers.ok.0 in let n = c.requires.count in omega (arith, o, n)) c.loop-worker.invariant.are_in in
    again (length c.args.scripts.now) c.args.list.now c.args.workers.items (view c.loop-worker.chief) c.loop-worker.left.images.items c.loop-worker.left.drafts.items c.loop-worker.left.others.items (let o = c.args.workers.ok.0 in let n = c.requires.count in omega (arith, o, n)) done

pub returns-clause-images : goal.returns-clause-images
returns-clause-images g c =
    let done = last_in (length c.args.scripts.now) c.args.list.now c.args.workers.items c.loop-worker.workers.items (view c.loop-worker.chief) c.loop-worker.left.images.items c.loop-worker.left.drafts.items c.loop-worker.left.others.items
    (let o = c.loop-worker.workers.ok.0 in let n = c.in_default.ensures.cases.0 in omega (arith, o, n)) (let o = c.args.workers.ok.0 in let n = c.requires.count in omega (arith, o, n)) c.loop-worker.invariant.are_in in
    done.images_are

pub returns-clause-passes : goal.returns-clause-passes
returns-clause-passes g c =
    let done = last_in (length c.args.scripts.now) c.args.list.now c.args.workers.items c.loop-worker.workers.items (view c.loop-worker.chief) c.loop-worker.left.images.items c.loop-worker.left.drafts.items c.loop-worker.left.others.items
    (let o = c.loop-worker.workers.ok.0 in let n = c.in_default.ensures.cases.0 in omega (arith, o, n)) (let o = c.args.workers.ok.0 in let n = c.requires.count in omega (arith, o, n)) c.loop-worker.invariant.are_in in
    done.passes_are

pub returns-clause-met : goal.returns-clause-met
returns-clause-met g c =
    let done = last_in (length c.args.scripts.now) c.args.list.now c.args.workers.items c.loop-worker.workers.items (view c.loop-worker.chief) c.loop-worker.left.images.items c.loop-worker.left.drafts.items c.loop-worker.left.others.items
    (let o = c.loop-worker.workers.ok.0 in let n = c.in_default.ensures.cases.0 in omega (arith, o, n)) (let o = c.args.workers.ok.0 in let n = c.requires.count in omega (arith, o, n)) c.loop-worker.invariant.are_in in
    (let m = done.many in let o = c.loop-worker.left.images.ok.0 in omega (arith, m, o))

pub returns-clause-drafts : goal.returns-clause-drafts
returns-clause-drafts g c =
    let done = last_in (length c.args.scripts.now) c.args.list.now c.args.workers.items c.loop-worker.workers.items (view c.loop-worker.chief) c.loop-worker.left.images.items c.loop-worker.left.drafts.items c.loop-worker.left.others.items
    (let o = c.loop-worker.workers.ok.0 in let n = c.in_default.ensures.cases.0 in omega (arith, o, n)) (let o = c.args.workers.ok.0 in let n = c.requires.count in omega (arith, o, n)) c.loop-worker.invariant.are_in in
    done.drafts_are

pub returns-clause-others : goal.returns-clause-others
returns-clause-others g c =
    let done = last_in (length c.args.scripts.now) c.args.list.now c.args.workers.items c.loop-worker.workers.items (view c.loop-worker.chief) c.loop-worker.left.images.items c.loop-worker.left.drafts.items c.loop-worker.left.others.items
    (let o = c.loop-worker.workers.ok.0 in let n = c.in_default.ensures.cases.0 in omega (arith, o, n)) (let o = c.args.workers.ok.0 in let n = c.requires.count in omega (arith, o, n)) c.loop-worker.invariant.are_in in
    c.turned_round-2.ensures ∙ ap reverse done.others_are ∙ reverse-reverse (lines_left c.args.workers.items)
