use Rattle.std.proofs.Common.{◌≡◌, ℕ, List, Bool, ◌+◌, ◌<◌, ◌≤◌, ◌-◌, ◌⊎◌, inl, inr, ◌∙◌, ◌&&◌, ◌==◌, ap, length-drop, length, drop, take, get_or, true, false, arith, sym, refl, subst}
use Rattle.std.proofs.Math.Bool.{and-false}
use Rattle.std.proofs.lemmas.Bool.{ne_eqb}
use Rattle.std.specs.List.{list_all}
use Rattle.pp_lexer.specs.inner.Fronts.{is_straight, is_quiet}
use Rattle.pp_lexer.proofs.characters.PlainCommentsLemmas.{IsBlockSoFar, block_start, block_more, block_feed, block_quiet, plain_block}
use Rattle.pp_lexer.proofs.numbers.PlainNumbersLemmas.{length_whole}
use Rattle.pp_lexer.proofs.lexer.plain.comment.block_comment.Goals as goal
use Rattle.pp_lexer.proofs.lexer.plain.comment.block_comment.Goals.{else-was_star-via-then-was_star+else-byte-eq47, else-was_star-via-else-was_star, then-byte-eq10, else-byte-eq10+else-not-is_straight}

pub characters-init : goal.characters-init
characters-init c =
    let bytes = c.args.bytes.now in
    subst (λ t. IsBlockSoFar t 0 0 false) (sym (length_whole 2 bytes))
    (block_start bytes c.requires.utf8 c.requires.some c.requires.slash c.requires.second)

pub returns-then-byte-eq47 : goal.returns-then-byte-eq47
returns-then-byte-eq47 c =
    let bytes = c.args.bytes.now in
    let i = c.characters.at in
    let body = take (length bytes - 2) (drop 2 bytes) in
    let rest : body ≡ drop 2 bytes = length_whole 2 bytes in
    let s : IsBlockSoFar body i c.characters.newlines true = subst (IsBlockSoFar body i c.characters.newlines) c.if-was_star.true c.characters.invariant in
    let within : i < length (drop 2 bytes) = omega (arith, c.characters-test.true, ap length rest) in
    plain_block bytes i c.characters.newlines c.requires.utf8 c.requires.some c.requires.slash c.requires.second
    (subst (λ t. IsBlockSoFar t i c.characters.newlines true) rest s) within (ap (λ t. get_or t i 0) (sym rest) ∙ c.if-byte-eq47.true)

-- one character that doesn't close the comment
one_more : (body : List ℕ) (i newlines n : ℕ) (star : Bool) → IsBlockSoFar body i newlines star → i < length body
    → (star && (get_or body i 0 == 47)) ≡ false
    → ((get_or body i 0 ≡ 10) × (n ≡ newlines + 1)) ⊎ ((is_straight (get_or body i 0) ≡ true) × (n ≡ newlines))
    → IsBlockSoFar body (i + 1) n (get_or body i 0 == 42)
one_more body i newlines n star s l open_yet (inl (feed, is)) = rw (is, feed) (block_feed body i newlines star s l feed)
one_more body i newlines n star s l open_yet (inr (straight, is)) = rw is (block_more body i newlines star s l open_yet straight)

still_open : (star : Bool) (byte : ℕ) → (star ≡ false) ⊎ ((byte == 47) ≡ false) → (star && (byte == 47)) ≡ false
still_open star byte (inl no_star) = rw no_star refl
still_open star byte (inr no_slash) = rw no_slash (and-false star)

pub characters-preserved : goal.characters-preserved
characters-preserved c =
    let body = take (length c.args.bytes.now - 2) (drop 2 c.args.bytes.now) in
    let at = c.characters.at in
    one_more body at c.characters.newlines c.if-byte-eq10.newlines c.characters.was_star c.characters.invariant (omega arith)
    (still_open c.characters.was_star (get_or body at 0)
    (elim c.else-was_star.branch [
      | else-was_star-via-then-was_star+else-byte-eq47 w ↦ inr (ne_eqb (get_or body at 0) 47 w.if-byte-eq47.false)
      | else-was_star-via-else-was_star w ↦ inl w.if-was_star.false
    ]))
    (elim c.if-byte-eq10.branch [
      | then-byte-eq10 w ↦ inl (w.if-byte-eq10.true, w.newlines-is)
      | else-byte-eq10+else-not-is_straight w ↦ inr (sym w.is_straight.ensures ∙ w.if-not-is_straight.false, w.newlines-is)
    ])

pub characters-preserved-then-not-was_star : goal.characters-preserved-then-not-was_star
characters-preserved-then-not-was_star c =
    let body = take (length c.args.bytes.now - 2) (drop 2 c.args.bytes.now) in
    let at = c.characters.at in
    let n = c.if-byte-eq10.newlines in
    let before : IsBlockSoFar body (at + 1) n (get_or body at 0 == 42) =
    one_more body at c.characters.newlines n c.characters.was_star c.characters.invariant (omega arith)
    (still_open c.characters.was_star (get_or body at 0)
    (elim c.else-was_star.branch [
      | else-was_star-via-then-was_star+else-byte-eq47 w ↦ inr (ne_eqb (get_or body at 0) 47 w.if-byte-eq47.false)
      | else-was_star-via-else-was_star w ↦ inl w.if-was_star.false
    ]))
    (elim c.if-byte-eq10.branch [
      | then-byte-eq10 w ↦ inl (w.if-byte-eq10.true, w.newlines-is)
      | else-byte-eq10+else-not-is_straight w ↦ inr (sym w.is_straight.ensures ∙ w.if-not-is_straight.false, w.newlines-is)
    ]) in
    let no_star : (get_or body at 0 == 42) ≡ false = ne_eqb (get_or body at 0) 42 c.if-not-was_star.true in
    let rest : take (length body - (at + 1)) (drop (at + 1) body) ≡ drop (at + 1) body = length_whole (at + 1) body in
    let run = c.quiet_length-at.result in
    let within : run ≤ length body - (at + 1) =
    omega (arith, c.quiet_length-at.ensures.within, ap length rest, length-drop (at + 1) body) in
    subst (IsBlockSoFar body (at + 1 + run) n) (sym no_star)
    (block_quiet body (at + 1) n run (subst (IsBlockSoFar body (at + 1) n) no_star before) (omega (arith, before.within))
    (ap (λ t. list_all is_quiet (take run t)) (sym rest) ∙ c.quiet_length-at.ensures.passes))
