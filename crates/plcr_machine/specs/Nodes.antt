-- Which nodes are new, removed, let go and free, after a history with the newest entry first.
-- As in epoch-based reclamation, a node that was removed is free once each pass was found with no
-- stamp, or with one from after the count of the removal.
use Rattle.std.specs.Prelude.{ℕ, suc, List, [], ◌∷◌, Bool, true, false, not, ◌==◌, ◌||◌, ◌&&◌, if◌then◌else◌, nat_lt, length}
use Rattle.plcr_machine.specs.declared.entry.Entry.{Entry}
use Rattle.plcr_machine.specs.declared.entry.Entry.TheVariants.{Load, Unload, Look}
use Rattle.plcr_machine.specs.Passes.{all_under, count_below, counts}

-- whether a node was never loaded
abbrev pub is_new : ℕ → List Entry → Bool
is_new node [] = true
is_new node (Load n _ _ ∷ past) = if n == node then false else is_new node past
is_new node (_ ∷ past) = is_new node past

-- whether the last of all loads and unloads of a node is an unload
abbrev pub is_removed : ℕ → List Entry → Bool
is_removed node [] = false
is_removed node (Load n _ _ ∷ past) = if n == node then false else is_removed node past
is_removed node (Unload n ∷ past) = if n == node then true else is_removed node past
is_removed node (_ ∷ past) = is_removed node past

-- how many counts there were before the last unload of a node; 0 where it was never unloaded
abbrev pub counts_before : ℕ → List Entry → ℕ
counts_before node [] = 0
counts_before node (Unload n ∷ past) = if n == node then counts past else counts_before node past
counts_before node (_ ∷ past) = counts_before node past

-- whether a stamp lets go of what was unloaded after so many counts: it is 0, or of a pass that had
-- seen the unload counted
abbrev pub lets_go : ℕ → ℕ → Bool
lets_go before stamp = (stamp == 0) || nat_lt (suc before) stamp

-- whether a pass has let go of a node: since the node's last load or unload it was found with a
-- stamp that lets go
abbrev pub is_let_go : ℕ → ℕ → List Entry → Bool
is_let_go pass node [] = false
is_let_go pass node (Load n _ _ ∷ past) = if n == node then false else is_let_go pass node past
is_let_go pass node (Unload n ∷ past) = if n == node then false else is_let_go pass node past
is_let_go pass node (Look p stamp ∷ past) = ((p == pass) && lets_go (counts_before node past) stamp)
    || is_let_go pass node past
is_let_go pass node (_ ∷ past) = is_let_go pass node past

-- whether each pass has let go of a node
abbrev pub is_cleared : ℕ → ℕ → List Entry → Bool
is_cleared passes node history = all_under (λ pass. is_let_go pass node history) passes

-- whether a node is free: never loaded, or removed and let go by each pass since
abbrev pub is_free : ℕ → ℕ → List Entry → Bool
is_free passes node history =
    is_new node history || (is_removed node history && is_cleared passes node history)

-- whether a node waits: it was removed, and some pass has not let go of it
abbrev pub is_waiting : ℕ → ℕ → List Entry → Bool
is_waiting passes node history = is_removed node history && not (is_cleared passes node history)

-- how many of the nodes are free, and how many wait
abbrev pub free_count : ℕ → ℕ → List Entry → ℕ
free_count nodes passes history = count_below (λ node. is_free passes (suc node) history) nodes

abbrev pub waiting_count : ℕ → ℕ → List Entry → ℕ
waiting_count nodes passes history =
    count_below (λ node. is_waiting passes (suc node) history) nodes

-- whether a pass was found with no stamp since the last change
abbrev pub is_found_out : ℕ → List Entry → Bool
is_found_out pass [] = false
is_found_out pass (Load _ _ _ ∷ past) = false
is_found_out pass (Unload _ ∷ past) = false
is_found_out pass (Look p stamp ∷ past) = ((p == pass) && (stamp == 0)) || is_found_out pass past
is_found_out pass (_ ∷ past) = is_found_out pass past

-- how many entries a history had just after the last unload of a node, or 0
abbrev pub unloaded_at : ℕ → List Entry → ℕ
unloaded_at node [] = 0
unloaded_at node (Unload n ∷ past) = if n == node then suc (length past) else unloaded_at node past
unloaded_at node (_ ∷ past) = unloaded_at node past
