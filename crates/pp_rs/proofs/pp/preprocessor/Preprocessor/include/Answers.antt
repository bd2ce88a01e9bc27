use Rattle.std.proofs.Common.{◌≡◌, ◌∙◌, ap, sym, arith, true, false, Ok, Err}
use Rattle.std.specs.Prelude.{OnOk, Result, is_ok}
use Rattle.pp_macros.specs.inner.Nesting.{MacroProcessor}
use Rattle.pp_rs.specs.Kept.{Preprocessing, is_spent}
use Rattle.pp_rs.proofs.runs.IncludingLemmas.{included_now, full_now, fit_included, reported_included}
use Rattle.pp_rs.proofs.pp.preprocessor.Preprocessor.include.Goals as goal

where_ok : {A E P : Type 0} (r : Result A E) → is_ok r ≡ true → OnOk r P → P
where_ok (Ok value) e h = h
where_ok (Err error) e h = cc

pub include-requires-clause-unspent : goal.include-requires-clause-unspent
unfolding is_spent
include-requires-clause-unspent c =
    let fresh : c.self.inside.spent ≡ false = ap (λ p. p.spent) c.self.view_is ∙ sym c.is_spent.ensures ∙ c.if-is_spent.false in
    (c.self.invariant.0 fresh).0.unspent

-- too many texts are around
pub returns-then-depth-ge-INCLUDE_LIMIT : goal.returns-then-depth-ge-INCLUDE_LIMIT
returns-then-depth-ge-INCLUDE_LIMIT c =
    let p = c.self.inside in
    let old : Preprocessing = record { expander = p.expander.here; source = p.source; spent = p.spent; place = p.place; last = p.last; name_call = p.name_call; rules = p.rules } in
    rw (← c.self.view_is) (full_now c.args.text.now old (omega arith))

pub returns : goal.returns
unfolding is_spent
returns c =
    let p = c.self.inside in
    let old : Preprocessing = record { expander = p.expander.here; source = p.source; spent = p.spent; place = p.place; last = p.last; name_call = p.name_call; rules = p.rules } in
    let fresh : p.spent ≡ false = ap (λ p. p.spent) c.self.view_is ∙ sym c.is_spent.ensures ∙ c.if-is_spent.false in
    rw (← c.self.view_is)
    (included_now c.args.text.now old (c.self.invariant.0 fresh).1.1 (omega arith) c.forget_end.new.self.here c.include.new.self c.set_end.new.self
    (ap (λ (m : MacroProcessor). m.here) c.forget_end.ensures)
    (where_ok c.include.result (c.if-is_err.ensures {u = tt}).negation c.include.ensures.ok) c.set_end.ensures)

pub invariant_of-self-2 : goal.invariant_of-self-2
invariant_of-self-2 c =
    let p = c.self.inside in
    let expander = ap (λ (m : MacroProcessor). m.here) c.forget_end.ensures in
    let source = where_ok c.include.result (c.if-is_err.ensures {u = tt}).negation c.include.ensures.ok in (
      λ e.
          let fit = c.self.invariant.0 e in
          rw (expander, source) (
            fit_included c.args.text.now p.expander.here p.source fit.0,
            reported_included p.rules c.args.text.now p.expander.here p.source fit.1,
          ),
      ap (λ (m : MacroProcessor). m.below) c.forget_end.ensures ∙ c.self.invariant.1,
      λ e. cc,
    )
