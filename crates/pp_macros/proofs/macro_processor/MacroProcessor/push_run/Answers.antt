use Rattle.std.proofs.Common.{◌≡◌, ◌∙◌, ℕ, List, ◌++◌, length, take, drop, ap, arith, append-nil, refl, sym, true, false, Err}
use Rattle.std.proofs.Math.ListN.{drop_of_length-le}
use Rattle.std.proofs.lemmas.List.{take_all}
use Rattle.std.proofs.lemmas.Result.{err_from_is_err_and}
use Rattle.pp_model.specs.Names.{Name}
use Rattle.pp_model.specs.declared.read.Read.{Read}
use Rattle.pp_macros.specs.inner.Frames.{names_of}
use Rattle.pp_macros.specs.inner.Reading.{painted_from}
use Rattle.pp_macros.proofs.defined_names.GrowLemmas.{run_grow}
use Rattle.pp_macros.proofs.open_frames.KnownLemmas.{known_more}
use Rattle.pp_macros.proofs.taking.NestingLemmas.{idle_names}
use Rattle.pp_macros.proofs.taking.PaintedRunLemmas.{painted_run}
use Rattle.pp_macros.proofs.taking.RunLemmas.{run_now, run_after, run_refused, flat_run}
use Rattle.pp_macros.proofs.macro_processor.MacroProcessor.push_run.Goals as goal

-- the tokens that are painted in place of those that were read
painted : (names masks : List Name) (k l n : ℕ) (new read all : List Read) → new ≡ painted_from names k read → names ≡ masks → k ≡ l → read ≡ all
    → n ≡ length all → length new ≡ length read → take n (new ++ drop (length new) all) ≡ painted_from masks l all
painted names masks k l n new read all is same at value number kept =
    ap (λ (rest : List Read). take n (new ++ rest)) (drop_of_length-le all (omega (arith, kept, ap length value))) ∙ ap (take n) (append-nil new)
    ∙ take_all n new (omega (arith, number, kept, ap length value)) ∙ is ∙ rw (same, at, value) refl

pub returns-then-not-is_idle-clause-takes : goal.returns-then-not-is_idle-clause-takes
returns-then-not-is_idle-clause-takes g c = run_now _ _ _ _ _ _ _ c.push_next.ensures.takes c.push_next.ensures.kept

pub returns-in_err-found-clause-takes : goal.returns-in_err-found-clause-takes
returns-in_err-found-clause-takes g c =
    let e = err_from_is_err_and c.from_residual-in_err-found.result c.from_residual-in_err-found.ensures.1 in
    rw (e.1 ∙ ap Err e.2) (run_refused _ _ _ _ _ _)

pub returns-in_err-pay-clause-takes : goal.returns-in_err-pay-clause-takes
returns-in_err-pay-clause-takes g c =
    let e = err_from_is_err_and c.from_residual.result c.from_residual.ensures.1 in
    rw (e.1 ∙ ap Err e.2) (run_refused _ _ _ _ _ _)

pub returns-in_err-pay-2-clause-takes : goal.returns-in_err-pay-2-clause-takes
returns-in_err-pay-2-clause-takes g c =
    let e = err_from_is_err_and c.from_residual-in_err-pay-2.result c.from_residual-in_err-pay-2.ensures.1 in
    rw (e.1 ∙ ap Err e.2) (run_refused _ _ _ _ _ _)

pub paint_from-requires : goal.paint_from-requires
paint_from-requires g c =
    record { known = known_more _ _ c.args.self.now (run_grow c.args.tokens.now.items _ _ c.in_ok-found.found _ (c.in_ok-found.ensures {u = tt})) c.requires.known }

pub returns-then-found-clause-takes : goal.returns-then-found-clause-takes
returns-then-found-clause-takes g c =
    let idle = sym c.is_idle.ensures ∙ c.if-not-is_idle.false in
    let run = painted_run c.args.self.now.here c.args.self.now.below idle _ _ c.args.tokens.now.items _ true c.requires.waits
    (rw c.if-found.true at (c.in_ok-found.ensures {u = tt})) in
    rw (painted _ (names_of c.args.self.now.below) _ (length c.args.tokens.now.items) _ c.paint_from.new.tokens _ c.push_flat.new.tokens.items c.paint_from.ensures
    (idle_names c.args.self.now idle) (c.len-start.ensures ∙ c.args.tokens.now.ok.0) c.deref_mut.ensures.value
    c.push_flat.new.tokens.ok.0 c.paint_from.auto.tokens)
    (run_after _ _ _ _ _ _ _ _ _ run.0.flat run.0.last (λ e. cc))

pub returns-then-found-clause-waits : goal.returns-then-found-clause-waits
returns-then-found-clause-waits g c =
    (painted_run c.args.self.now.here c.args.self.now.below (sym c.is_idle.ensures ∙ c.if-not-is_idle.false) _ _ c.args.tokens.now.items _
    c.in_ok-found.found c.requires.waits (c.in_ok-found.ensures {u = tt})).1

pub push_next-requires-2-clause-waits : goal.push_next-requires-2-clause-waits
push_next-requires-2-clause-waits g c =
    (painted_run c.args.self.now.here c.args.self.now.below (sym c.is_idle.ensures ∙ c.if-not-is_idle.false) _ _ c.args.tokens.now.items _
    c.in_ok-found.found c.requires.waits (c.in_ok-found.ensures {u = tt})).1

pub push_next-requires-2-clause-known : goal.push_next-requires-2-clause-known
push_next-requires-2-clause-known g c =
    known_more _ _ c.args.self.now (run_grow c.args.tokens.now.items _ _ c.in_ok-found.found _ (c.in_ok-found.ensures {u = tt})) c.requires.known

pub returns-clause-takes : goal.returns-clause-takes
returns-clause-takes g c =
    let idle = sym c.is_idle.ensures ∙ c.if-not-is_idle.false in
    let run = painted_run c.args.self.now.here c.args.self.now.below idle _ _ c.args.tokens.now.items _ false c.requires.waits
    (rw c.if-found.false at (c.in_ok-found.ensures {u = tt})) in
    let flat = flat_run _ _ _ _ _ _ _ run.0.flat run.0.last.0
    (painted _ (names_of c.args.self.now.below) _ (length c.args.tokens.now.items) _ c.paint_from.new.tokens _ c.push_flat.new.tokens.items
    c.paint_from.ensures (idle_names c.args.self.now idle) (c.len-start.ensures ∙ c.args.tokens.now.ok.0) c.deref_mut.ensures.value
    c.push_flat.new.tokens.ok.0 c.paint_from.auto.tokens ∙ run.0.last.1) in
    run_after _ _ _ _ _ _ _ _ _ flat c.push_next-2.ensures.takes c.push_next-2.ensures.kept
