-- How many items show a fault, an item at a time.
use Rattle.std.proofs.Common.{◌≡◌, ◌∙◌, ap, sym, refl, arith, ℕ, zero, suc, ◌+◌, ◌<◌, Bool, true, false, ◌&&◌, if◌then◌else◌, List, [], ◌∷◌, ◌++◌, take, drop, length}
use Rattle.std.specs.List.{list_any}
use Rattle.pp_lexer.specs.Lexed.{Seen}
use Rattle.pp_model.specs.Lines.{line_length}
use Rattle.pp_model.specs.Sights.{is_directive_hash, sight_of}
use Rattle.pp_model.specs.Blocks.{is_live}
use Rattle.pp_model.specs.SourceReader.{SourceReader}
use Rattle.pp_model.specs.Moves.{BlockFacts, Effect, move_at}
use Rattle.pp_model.specs.inner.Acts.{items_left}
use Rattle.std.specs.Prelude.{Option}
use Rattle.pp_model.specs.Faults.{facts_past, is_shown, shown_length, fault_length}

shown_step : (effect : List Seen → Effect) (line : List Seen) (k : ℕ) → k < length line
    → shown_length (λ more. effect (take k line ++ more)) (drop k line)
    ≡ (if is_shown (effect (take (suc k) line)) then 1 else 1 + shown_length (λ more. effect (take (suc k) line ++ more)) (drop (suc k) line))
shown_step effect [] k h = absurd (omega (arith, h))
shown_step effect (s ∷ rest) zero h = refl
shown_step effect (s ∷ rest) (suc k) h = shown_step (λ items. effect (s ∷ items)) rest k (omega (arith, h))

-- these items show it
here_suc : (effect : List Seen → Effect) (line : List Seen) (k : ℕ) → k < length line → is_shown (effect (take (suc k) line)) ≡ true
    → shown_length (λ more. effect (take k line ++ more)) (drop k line) ≡ 1
here_suc effect line k h shown = shown_step effect line k h
    ∙ ap (λ (b : Bool). if b then 1 else 1 + shown_length (λ more. effect (take (suc k) line ++ more)) (drop (suc k) line)) shown

-- more are wanted
later_suc : (effect : List Seen → Effect) (line : List Seen) (k : ℕ) → k < length line → is_shown (effect (take (suc k) line)) ≡ false
    → shown_length (λ more. effect (take k line ++ more)) (drop k line)
    ≡ 1 + shown_length (λ more. effect (take (suc k) line ++ more)) (drop (suc k) line)
later_suc effect line k h none = shown_step effect line k h
    ∙ ap (λ (b : Bool). if b then 1 else 1 + shown_length (λ more. effect (take (suc k) line ++ more)) (drop (suc k) line)) none

one_more : (k : ℕ) → k + 1 ≡ suc k
one_more k = omega arith

pub shown_here : (effect : List Seen → Effect) (line : List Seen) (k : ℕ) → k < length line → is_shown (effect (take (k + 1) line)) ≡ true
    → k + 1 ≡ k + shown_length (λ more. effect (take k line ++ more)) (drop k line)
shown_here effect line k h shown =
    ap (λ n. k + n) (sym (here_suc effect line k h (ap (λ n. is_shown (effect (take n line))) (sym (one_more k)) ∙ shown)))

regroup : (a b : ℕ) → (a + 1) + b ≡ a + (1 + b)
regroup a b = omega arith

pub shown_later : (effect : List Seen → Effect) (line : List Seen) (k total : ℕ) → k < length line → is_shown (effect (take (k + 1) line)) ≡ false
    → total ≡ (k + 1) + shown_length (λ more. effect (take (k + 1) line ++ more)) (drop (k + 1) line)
    → total ≡ k + shown_length (λ more. effect (take k line ++ more)) (drop k line)
shown_later effect line k total h none is =
    let later = later_suc effect line k h (ap (λ n. is_shown (effect (take n line))) (sym (one_more k)) ∙ none) in
    is ∙ regroup k (shown_length (λ more. effect (take (k + 1) line ++ more)) (drop (k + 1) line))
    ∙ ap (λ n. k + (1 + shown_length (λ more. effect (take n line ++ more)) (drop n line))) (one_more k)
    ∙ ap (λ n. k + n) (sym later)

none_before : (n : ℕ) → 0 + n ≡ n
none_before n = omega arith

-- the fault at a position takes these, if it doesn't take the line
pub fault_shown : (n : ℕ) (r : SourceReader) (rest line : List Seen) (live whole : Bool) (block : Option BlockFacts) (taken : ℕ)
    → rest ≡ items_left r → line ≡ take (line_length rest) rest
    → whole ≡ (r.rules.passes_dead_errors && list_any (λ s. is_directive_hash s.item) (take 1 line)) → whole ≡ false
    → live ≡ is_live r.items r.truths r.position → block ≡ facts_past n r
    → taken ≡ 0 + shown_length (λ more. (move_at r.rules live block (sight_of (take 0 line ++ more)) (take 0 line ++ more)).effect) (drop 0 line)
    → taken ≡ fault_length n r
fault_shown n r rest line live whole block taken e l w none v b is =
    let there : line ≡ take (line_length (items_left r)) (items_left r) = l ∙ ap (λ (x : List Seen). take (line_length x) x) e in
    let part : (r.rules.passes_dead_errors && list_any (λ s. is_directive_hash s.item) (take 1 (take (line_length (items_left r)) (items_left r)))) ≡ false =
    ap (λ (x : List Seen). r.rules.passes_dead_errors && list_any (λ s. is_directive_hash s.item) (take 1 x)) (sym there) ∙ sym w ∙ none in
    is ∙ none_before _
    ∙ ap (λ (x : Bool). shown_length (λ more. (move_at r.rules x block (sight_of more) more).effect) line) v
    ∙ ap (λ (x : Option BlockFacts). shown_length (λ more. (move_at r.rules (is_live r.items r.truths r.position) x (sight_of more) more).effect) line) b
    ∙ ap (λ (x : List Seen). shown_length (λ more. (move_at r.rules (is_live r.items r.truths r.position) (facts_past n r) (sight_of more) more).effect) x) there
    ∙ ap (λ (x : Bool). if x then length (take (line_length (items_left r)) (items_left r)) else shown_length (λ more. (move_at r.rules (is_live r.items r.truths r.position) (facts_past n r) (sight_of more) more).effect) (take (line_length (items_left r)) (items_left r))) (sym part)
