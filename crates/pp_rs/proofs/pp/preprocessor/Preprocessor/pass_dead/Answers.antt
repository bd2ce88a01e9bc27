use Rattle.std.proofs.Common.{◌≡◌, ◌∙◌, ◌<◌, Bool, true, false, refl, ap, sym, arith, Option}
use Rattle.std.specs.Prelude.{MatchBool}
use Rattle.pp_lexer.specs.declared.rules.Rules.{Rules}
use Rattle.pp_lexer.specs.declared.token.Location.{Location}
use Rattle.pp_model.specs.Emitting.{expansion_limit}
use Rattle.pp_model.specs.declared.splice.CallPlace.{CallPlace}
use Rattle.pp_macros.specs.inner.Expander.{Expander}
use Rattle.pp_macros.specs.inner.Left.{work_of}
use Rattle.pp_macros.specs.inner.Reader.{of_source}
use Rattle.pp_macros.specs.inner.Source.{Source}
use Rattle.pp_macros.specs.inner.Idle.{is_idle}
use Rattle.pp_rs.specs.Kept.{LastItem, Preprocessing, is_spent, most_items}
use Rattle.pp_rs.specs.inner.NextWord.{IsPause}
use Rattle.pp_rs.proofs.runs.NextLemmas.{Reached, reached_first}
use Rattle.pp_rs.proofs.runs.PassedLemmas.{pauses_over, passed_pauses}
use Rattle.pp_rs.proofs.pp.preprocessor.Preprocessor.pass_dead.Goals as goal

-- words were passed, or all is as it was
words_passed : (old : Preprocessing) (is_passed : Bool) (now : Expander) (source_now : Source) (spent : Bool) (place : Location) (last : LastItem)
    (call : Option CallPlace) (rules : Rules)
    → Reached rules old.expander old.source now source_now → old.spent ≡ false → spent ≡ false → place ≡ old.place → rules ≡ old.rules
    → now ≡ old.expander → last ≡ old.last → call ≡ old.name_call
    → MatchBool is_passed (work_of expansion_limit now (of_source source_now) < work_of expansion_limit old.expander (of_source old.source)) (source_now ≡ old.source)
    → MatchBool is_passed
    (IsPause old (record { expander = now; source = source_now; spent = spent; place = place; last = last; name_call = call; rules = rules }))
    (record { expander = now; source = source_now; spent = spent; place = place; last = last; name_call = call; rules = rules } ≡ old)
unfolding is_spent most_items
words_passed old true now source_now spent place last call rules r fresh same at ruled here given called less =
    record { passed = passed_pauses old now source_now spent place last call rules r fresh same at ruled; less_left = rw (same, fresh) less }
words_passed old false now source_now spent place last call rules r fresh same at ruled here given called kept =
    rw (here, kept, same ∙ sym fresh, at, given, called, ruled) refl

pub words-init : goal.words-init
unfolding is_spent
words-init c =
    let fresh = ap (λ (p : Preprocessing). p.spent) c.self.view_is ∙ c.requires in
    record {
      unnoted = c.if-self.false;
      unspent = fresh;
      placed = ap (λ (p : Preprocessing). p.place) c.self.view_is;
      given = ap (λ (p : Preprocessing). p.last) c.self.view_is;
      called = ap (λ (p : Preprocessing). p.name_call) c.self.view_is;
      ruled = ap (λ (p : Preprocessing). p.rules) c.self.view_is;
      alone = c.self.invariant.1;
      same = ap (λ (p : Preprocessing). p.expander) c.self.view_is;
      idle = sym c.is_idle.ensures ∙ c.if-not-is_idle.false;
      reached = reached_first _ _ _ _ (ap (λ (p : Preprocessing). p.expander) c.self.view_is) (ap (λ (p : Preprocessing). p.source) c.self.view_is) (c.self.invariant.0 fresh);
      passed = ap (λ (p : Preprocessing). p.source) c.self.view_is;
    }

pub words-preserved : goal.words-preserved
words-preserved c =
    let pauses = rw c.words-test.true at c.pass_dead.ensures in
    let over = pauses_over pauses.0 _ _ _ _ _ c.words.invariant.idle c.words.invariant.reached pauses.1 in
    record {
      unnoted = c.words.invariant.unnoted;
      unspent = c.words.invariant.unspent;
      placed = c.words.invariant.placed;
      given = c.words.invariant.given;
      called = c.words.invariant.called;
      ruled = c.words.invariant.ruled;
      alone = c.words.invariant.alone;
      same = c.words.invariant.same;
      idle = c.words.invariant.idle;
      reached = over.reached;
      passed = omega (arith, over.less, c.words.invariant.reached.less);
    }

pub words-smaller : goal.words-smaller
words-smaller c =
    let pauses = rw c.words-test.true at c.pass_dead.ensures in
    (pauses_over pauses.0 _ _ _ _ _ c.words.invariant.idle c.words.invariant.reached pauses.1).less

pub returns : goal.returns
unfolding is_spent
returns c =
    let w = c.words.invariant in
    let self = c.words.self-inside in
    let same : c.pass_dead.new.self ≡ self.source = rw c.words-test.false at c.pass_dead.ensures in
    rw same (words_passed c.args.self.now c.words.is_passed self.expander.here self.source self.spent self.place self.last self.name_call self.rules w.reached
    c.requires w.unspent w.placed w.ruled w.same w.given w.called w.passed)
