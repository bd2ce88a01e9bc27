use Rattle.std.proofs.Common.{◌≡◌, ◌∙◌, Err, ap, refl, string_bytes}
use Rattle.pp_print.specs.declared.ends.RunEnd.TheVariants.{Done, Stopped}
use Rattle.pp_print.specs.declared.ends.RunFault.TheVariants.{OutOfMemory}
use Rattle.pp_print.specs.Runs.{IsStoppedBySource}
use Rattle.pp_rs.proofs.AskedLemmas.{quiet_by_pp_rs}
use Rattle.pp_rs.proofs.runs.GivingLemmas.{given_unspent, token_unspent}
use Rattle.pp_print.proofs.TextLemmas.{same_fault, IfOk-one}
use Rattle.pp_print.proofs.NextLemmas.{usual_after, usual_next, next_token, next_error, next_none, no_refusal}
use Rattle.pp_print.proofs.RunLemmas.{text_starts, tokens_taken, directive_printed, printing_ends, printing_begun}
use Rattle.pp_print.proofs.output.print_rest.Goals as goal

pub items-init : goal.items-init
items-init g c = record {
  ok = c.requires.ready;
  unspent = c.requires.unspent;
  rules = c.requires.rules;
  printing = λ start stands. text_starts start _ _ (g.W.Sink.contents c.args.writer.now) stands c.new-line.ensures.bytes;
}

pub print_directive-printed-requires-clause-directive : goal.print_directive-printed-requires-clause-directive
print_directive-printed-requires-clause-directive g c = (rw c.in-Ok.is at c.in-Some.ensures).no_token

pub items-smaller : goal.items-smaller
items-smaller g c = (rw c.in-Ok.is at c.in-Some.ensures).less_left

pub items-preserved : goal.items-preserved
items-preserved g c =
    let before = c.items.invariant in
    let gives = rw c.in-Ok.is at c.in-Some.ensures in
    let fresh = given_unspent _ _ _ _ _ gives.given before.unspent in
    let printed = c.in_ok-printed-in-Ok.ensures {u = tt} in
    record {
      ok = printed.ok;
      unspent = token_unspent _ _ c.in-Ok.token fresh gives.next;
      rules = usual_next _ _ _ gives.next (usual_after _ _ _ _ _ gives.given before.rules);
      printing = λ start stands.
          let text = tokens_taken start _ _ _ _ before.unspent (before.printing start stands) _ _ gives.given in
          let next = next_token _ _ fresh c.in-Ok.token gives.next text.printing.state text.printing.now in
          directive_printed start _ _ _ _ _ _ _ c.in-Ok.token next.0 text next.1 next.2 gives.no_token
          (printed.written text.line (ap string_bytes (gives.sink refl) ∙ text.is)) c.new-line-in-Ok.ensures.bytes;
    }

pub returns-in_err-printed-in-Ok-clause-begun : goal.returns-in_err-printed-in-Ok-clause-begun
returns-in_err-printed-in-Ok-clause-begun g c = λ e start stands.
    let refused : c.print_directive-printed.result ≡ Err OutOfMemory = same_fault _ _ _ _ (c.in_err-printed-in-Ok.was {u = tt})
    c.from_residual.ensures.1 e in
    rw (c.print_directive-printed.ensures.refused refused) (printing_begun start _ _ _ _ (c.items.invariant.printing start stands).printing)

pub returns-in-Err-clause-begun : goal.returns-in-Err-clause-begun
returns-in-Err-clause-begun g c = λ e start stands.
    rw (c.print_stop.ensures.refused e) (printing_begun start _ _ _ _ (c.items.invariant.printing start stands).printing)

pub returns-in-Err-clause-printed : goal.returns-in-Err-clause-printed
returns-in-Err-clause-printed g c = IfOk-one c.print_stop.result IsStoppedBySource _ _ (Stopped c.in-Err.refusal.0 c.in-Err.refusal.1)
    c.print_stop.ensures.stopped c.print_stop.ensures.written (λ stopped written start stands.
    let before = c.items.invariant in
    let gives = rw c.in-Err.is at c.in-Some.ensures in
    let fresh = given_unspent _ _ _ _ _ gives.given before.unspent in
    let text = tokens_taken start _ _ _ _ before.unspent (before.printing start stands) _ _ gives.given in
    let quiet = quiet_by_pp_rs _ (usual_after _ _ _ _ _ gives.given before.rules) in
    let next = next_error _ _ fresh c.in-Err.refusal gives.next stopped quiet text.printing.state text.printing.now in
    printing_ends start _ _ _ _ _ text.printing (Stopped c.in-Err.refusal.0 c.in-Err.refusal.1) next.0 next.1
    (written text.line (ap string_bytes (gives.sink (no_refusal _ _ fresh c.in-Err.refusal gives.next stopped)) ∙ text.is)))

pub returns-in_err-print_line-clause-begun : goal.returns-in_err-print_line-clause-begun
returns-in_err-print_line-clause-begun g c = λ e start stands.
    let refused : c.print_line.result ≡ Err OutOfMemory =
    same_fault _ _ _ _ (c.in_err-print_line.was {u = tt}) c.from_residual-in_err-print_line.ensures.1 e in
    rw (c.print_line.ensures.refused refused) (printing_begun start _ _ _ _ (c.items.invariant.printing start stands).printing)

pub returns-clause-printed : goal.returns-clause-printed
returns-clause-printed g c = λ start stands.
    let before = c.items.invariant in
    let gives = c.in_default.ensures in
    let text = tokens_taken start _ _ _ _ before.unspent (before.printing start stands) _ _ gives.given in
    let next = next_none _ _ (given_unspent _ _ _ _ _ gives.given before.unspent) gives.next text.printing.state text.printing.now in
    printing_ends start _ _ _ _ _ text.printing Done next.0 next.1
    ((c.in_ok-print_line.ensures {u = tt}).written text.line (ap string_bytes (gives.sink refl) ∙ text.is))
