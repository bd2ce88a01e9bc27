use Rattle.std.proofs.Common.{◌∙◌, ap, arith, refl, sym}
use Rattle.std.proofs.lemmas.List.Elements.{All-push}
use Rattle.pp_model.specs.Calls.{nesting}
use Rattle.pp_model.specs.Places.{unasked}
use Rattle.pp_macros.specs.Halting.{halt_of}
use Rattle.pp_model.specs.declared.read.Read.{Read}
use Rattle.pp_macros.specs.Held.{HoldsOrdinary}
use Rattle.pp_macros.proofs.open_frames.KnownLemmas.{run_known}
use Rattle.pp_macros.proofs.taking.AnswerLemmas.{satisfies_fault}
use Rattle.pp_macros.proofs.taking.ExpanderLemmas.{last_put, before_last, gathers_fault, gathers_end, gathers_never, gathers_closed, gathers_overfull, gathers_more, next_falls}
use Rattle.pp_macros.proofs.taking.RunLemmas.{flat_gathers, flat_falls, flat_holds, place_put}
use Rattle.pp_macros.proofs.macro_processor.MacroProcessor.gather.Goals as goal

pub push_run-requires-clause-known : goal.push_run-requires-clause-known
push_run-requires-clause-known g c = c.tokens.invariant.known

pub returns-in-Err-Error : goal.returns-in-Err-Error
returns-in-Err-Error g c =
    let run = rw c.in-Err-Error.field-0-is at (c.in-Err-Error.ensures {u = tt}).takes in
    record {
      gathers = satisfies_fault c.halt_of.result (unasked c.in-Err-Error.fault) _ (c.halt_of.ensures ∙ ap halt_of c.unasked.ensures)
          (λ reported. gathers_fault _ _ _ run.some _ _ _ _ (flat_gathers _ _ _ _ _ _ _ _ _ c.tokens.invariant.goes_on run.flat) _ _ c.in-Err-Error.fault
          (run.last reported) reported);
      below = c.push_run.ensures.below ∙ c.tokens.invariant.below;
      holds = tt;
    }

pub returns-in-Err-Finished-clause-gathers : goal.returns-in-Err-Finished-clause-gathers
returns-in-Err-Finished-clause-gathers g c =
    let run = rw c.in-Err-Finished.field-0-is at (c.in-Err-Finished.ensures {u = tt}).takes in
    rw (c.ended_after.ensures, c.deref.ensures.value, run.kept refl)
    (gathers_end _ _ _ run.some _ _ _ _ (flat_gathers _ _ _ _ _ _ _ _ _ c.tokens.invariant.goes_on run.flat) _ _ run.last)

pub returns-in-Err-Continue-clause-gathers : goal.returns-in-Err-Continue-clause-gathers
returns-in-Err-Continue-clause-gathers g c =
    let run = rw c.in-Err-Continue.field-0-is at (c.in-Err-Continue.ensures {u = tt}).takes in
    rw c.ended_after-in-Err-Continue.ensures
    (gathers_never _ _ _ run.some _ _ _ _ (flat_gathers _ _ _ _ _ _ _ _ _ c.tokens.invariant.goes_on run.flat) _ _ _ run.last)

pub returns-in-Closes-clause-gathers : goal.returns-in-Closes-clause-gathers
returns-in-Closes-clause-gathers g c =
    let run = (c.in-Ok.ensures {u = tt}).takes in
    let t = run.last in
    let same = last_put _ _ t.read c.in-Some.read.now (c.deref-in-tokens.ensures.value ∙ t.is) c.in-Some.ensures.value in
    rw (c.pop.ensures.rest ∙ before_last _ _ t.read _ c.push_run.new.tokens.ok.0 t.is, c.place-place.ensures, same)
    (gathers_closed _ _ _ run.some _ _ _ _ (flat_gathers _ _ _ _ _ _ _ _ _ c.tokens.invariant.goes_on run.flat) _ _ t.read t.takes
    (ap (λ (r : Read). nesting c.tokens.depth r.token.value) (sym same) ∙ c.in-Closes.ensures {u = tt}))

pub returns-in-Closes-clause-holds : goal.returns-in-Closes-clause-holds
returns-in-Closes-clause-holds g c =
    let run = (c.in-Ok.ensures {u = tt}).takes in
    let t = run.last in
    rw (c.pop.ensures.rest ∙ before_last _ _ t.read _ c.push_run.new.tokens.ok.0 t.is)
    (flat_holds _ _ _ _ _ run.flat c.tokens.invariant.holds)

pub returns-in-TooMany-clause-gathers : goal.returns-in-TooMany-clause-gathers
returns-in-TooMany-clause-gathers g c =
    let run = (c.in-Ok.ensures {u = tt}).takes in
    let t = run.last in
    let same = last_put _ _ t.read c.in-Some.read.now (c.deref-in-tokens.ensures.value ∙ t.is) c.in-Some.ensures.value in
    rw (c.place-place.ensures, same)
    (gathers_overfull _ _ _ run.some _ _ _ _ (flat_gathers _ _ _ _ _ _ _ _ _ c.tokens.invariant.goes_on run.flat) _ _ t.read t.takes
    (ap (λ (r : Read). nesting c.tokens.depth r.token.value) (sym same) ∙ c.in-TooMany.ensures {u = tt}))

pub tokens-smaller : goal.tokens-smaller
tokens-smaller g c =
    let run = (c.in-Ok.ensures {u = tt}).takes in
    let t = run.last in
    omega (arith, next_falls _ _ _ _ t.read t.takes, flat_falls _ _ _ _ _ run.flat)

pub tokens-preserved : goal.tokens-preserved
tokens-preserved g c =
    let run = (c.in-Ok.ensures {u = tt}).takes in
    let t = run.last in
    let same = last_put _ _ t.read c.in-Some.read.now (c.deref-in-tokens.ensures.value ∙ t.is) c.in-Some.ensures.value in
    record {
      goes_on = rw (place_put c.args.paren run.some _ t.read t.is)
          (gathers_more _ _ _ run.some _ _ _ _ (flat_gathers _ _ _ _ _ _ _ _ _ c.tokens.invariant.goes_on run.flat) _ _ t.read _ _ t.takes
          (ap (λ (r : Read). nesting c.tokens.depth r.token.value) (sym same) ∙ c.in-Within.ensures {u = tt}) t.is);
      holds = rw t.is (All-push (λ (read : Read). HoldsOrdinary read.token.value) _ _ (flat_holds _ _ _ _ _ run.flat c.tokens.invariant.holds) t.holds);
      below = c.push_run.ensures.below ∙ c.tokens.invariant.below;
      waits = (c.in-Ok.ensures {u = tt}).waits;
      known = run_known c.tokens.self c.push_run.new.self _ _ _ _ _ _ run.flat t c.push_run.ensures.below c.tokens.invariant.known;
    }
