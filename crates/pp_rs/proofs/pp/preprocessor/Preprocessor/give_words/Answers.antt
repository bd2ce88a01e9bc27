use Rattle.std.specs.Prelude.{MatchBool}
use Rattle.pp_rs.specs.inner.NextWord.{IsPassed, IsPause}
use Rattle.pp_rs.proofs.runs.PassedLemmas.{passed_nothing}
use Rattle.std.proofs.Common.{◌≡◌, ◌∙◌, ◌<◌, ◌≤◌, Bool, true, false, refl, ap, sym, inl, inr, arith}
use Rattle.pp_rs.specs.Kept.{Preprocessing, is_spent, most_items, rules_of}
use Rattle.pp_rs.specs.inner.GivingOn.{HasLeft}
use Rattle.pp_rs.proofs.runs.GivingLemmas.{giving_passes, giving_refused, giving_word, on_err}
use Rattle.pp_rs.proofs.pp.preprocessor.Preprocessor.give_words.Goals as goal

has_left : (opened : Bool) (first now last : Preprocessing) → most_items now ≤ most_items first → most_items last ≤ most_items now
    → (opened ≡ true → most_items last < most_items now) → HasLeft opened first last
has_left true first now last fewer no_more less = omega (arith, fewer, less refl)
has_left false first now last fewer no_more less = omega (arith, fewer, no_more)

dead_passes : (passed : Bool) (old new : Preprocessing) → MatchBool passed (IsPause old new) (new ≡ old) → IsPassed old new
dead_passes true old new h = h.passed
dead_passes false old new h = rw h (passed_nothing old)

-- words of dead text are passed
pub returns-then-not-is_in_text-clause-giving : goal.returns-then-not-is_in_text-clause-giving
returns-then-not-is_in_text-clause-giving g c = λ start first p.
    let passed : IsPassed c.args.self.now c.pass_dead.new.self =
    rw c.is_in_text.ensures.same at (dead_passes c.pass_dead.result c.is_in_text.new.self c.pass_dead.new.self c.pass_dead.ensures) in
    giving_passes _ _ start _ first _ p c.requires.wants _ passed

pub words-init : goal.words-init
words-init g c = record {
  reads = c.is_in_text.ensures.reads c.if-not-is_in_text.false;
  left = rw c.is_in_text.ensures.same (omega arith);
  rules = ap rules_of c.is_in_text.ensures.same;
  giving = rw c.is_in_text.ensures.same (λ start first p. p);
}

pub next_word-requires : goal.next_word-requires
next_word-requires g c = c.words.invariant.reads

pub words-preserved : goal.words-preserved
unfolding is_spent
words-preserved g c =
    let before = c.words.invariant in
    let word = rw c.in-Some.is at (c.in_ok-word.ensures {u = tt}).gives in
    record {
      reads = word.reads;
      left = omega (arith, word.next.less_left, before.left);
      rules = word.next.rules ∙ before.rules;
      giving = λ start first p.
          let gave = (c.in_ok-give_word.ensures {u = tt}).taken in
          giving_word _ _ start _ first _ (before.giving start first p) before.reads.unspent c.in-Some.word _ gave.reference _ word
          gave.refers (rw c.source_text.ensures at gave.comes) gave.taken;
    }

pub words-smaller : goal.words-smaller
words-smaller g c =
    let word = rw c.in-Some.is at (c.in_ok-word.ensures {u = tt}).gives in
    omega (arith, word.next.less_left)

pub give_word-requires-clause-plain : goal.give_word-requires-clause-plain
give_word-requires-clause-plain g c = (rw c.in-Some.is at (c.in_ok-word.ensures {u = tt}).gives).plain

-- no more words
pub returns-in_default-clause-spent : goal.returns-in_default-clause-spent
unfolding is_spent
returns-in_default-clause-spent g c =
    let text = rw c.in_default.is at (c.in_ok-word.ensures {u = tt}).gives in
    text.passed.spent ∙ c.words.invariant.reads.unspent

pub returns-in_default-clause-left : goal.returns-in_default-clause-left
returns-in_default-clause-left g c =
    let text = rw c.in_default.is at (c.in_ok-word.ensures {u = tt}).gives in
    has_left _ _ _ _ c.words.invariant.left text.passed.no_more_left
    (λ opened. text.less_left (rw c.is_idle.ensures at opened))

pub returns-in_default-clause-giving : goal.returns-in_default-clause-giving
returns-in_default-clause-giving g c = λ start first p.
    let text = rw c.in_default.is at (c.in_ok-word.ensures {u = tt}).gives in
    giving_passes _ _ start _ first _ (c.words.invariant.giving start first p) (sym c.is_full.ensures ∙ c.words-test.true) _ text.passed

-- memory runs out
pub returns-in_err-word-clause-refused : goal.returns-in_err-word-clause-refused
unfolding is_spent
returns-in_err-word-clause-refused g c = on_err c.from_residual.result (λ start first p.
    let before = c.words.invariant in
    giving_refused _ _ _ start _ first _ (before.giving start first p) (sym c.is_full.ensures ∙ c.words-test.true) before.reads.unspent (c.in_err-word.ensures {u = tt}).some_left _ (inl refl))

pub returns-in_err-give_word-clause-refused : goal.returns-in_err-give_word-clause-refused
unfolding is_spent
returns-in_err-give_word-clause-refused g c = on_err c.from_residual-in_err-give_word.result (λ start first p.
    let before = c.words.invariant in
    let word = rw c.in-Some.is at (c.in_ok-word.ensures {u = tt}).gives in
    giving_refused _ _ _ start _ first _ (before.giving start first p) (sym c.is_full.ensures ∙ c.words-test.true) before.reads.unspent (omega (arith, word.next.less_left)) _ (inr (c.in_err-give_word.ensures {u = tt}).refused))

-- no step is left for it
pub returns-in_err-pay-clause-refused : goal.returns-in_err-pay-clause-refused
unfolding is_spent
returns-in_err-pay-clause-refused g c = on_err c.from_residual-in_err-pay.result (λ start first p.
    let before = c.words.invariant in
    let word = rw c.in-Some.is at (c.in_ok-word.ensures {u = tt}).gives in
    giving_refused _ _ _ start _ first _ (before.giving start first p) (sym c.is_full.ensures ∙ c.words-test.true) before.reads.unspent (omega (arith, word.next.less_left)) _ (inl refl))

-- the sink is full
pub returns-clause-spent : goal.returns-clause-spent
unfolding is_spent
returns-clause-spent g c = c.words.invariant.reads.unspent
