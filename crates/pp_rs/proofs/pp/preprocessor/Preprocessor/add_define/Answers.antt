use Rattle.std.proofs.Common.{subst, sym}
use Rattle.std.specs.Str.{chars}
use Rattle.pp_rs.specs.inner.Fit.{IsFit, IsReported}
use Rattle.pp_rs.specs.Kept.{Preprocessing}
use Rattle.pp_macros.specs.inner.Source.{Source}
use Rattle.pp_rs.proofs.runs.AddingLemmas.{added_now, faulty_now, refused_now, fit_added, reported_added}
use Rattle.pp_rs.proofs.pp.preprocessor.Preprocessor.add_define.Goals.{in-Ok, in-Err-Fault, in-Err-OutOfMemory}
use Rattle.pp_rs.proofs.pp.preprocessor.Preprocessor.add_define.Goals as goal

pub returns : goal.returns
returns c =
    let p = c.self.inside in
    let old : Preprocessing = record { expander = p.expander.here; source = p.source; spent = p.spent; place = p.place; last = p.last; name_call = p.name_call; rules = p.rules } in
    let name = c.args.name.now in
    let content = c.args.content.now in
    let new = c.set_content.new.self in
    elim c.match-set_content.branch [
      | in-Ok w ↦
          (let h = w.in-Ok.ensures {u = tt} in
          rw (w.result-is, ← c.self.view_is) (added_now old name content new h.0 h.1 h.2))
      | in-Err-Fault w ↦
          (let h = rw w.in-Err-Fault.field-0-is at (w.in-Err-Fault.ensures {u = tt}) in
          rw (w.result-is, ← c.self.view_is) (faulty_now old name content new w.in-Err-Fault.fault h.0 h.1))
      | in-Err-OutOfMemory w ↦
          (let h = rw w.in-Err-OutOfMemory.field-0-is at (w.in-Err-OutOfMemory.ensures {u = tt}) in
          rw (w.result-is, w.out_of_memory.ensures, ← c.self.view_is) (refused_now old name content new h))
    ]

pub invariant_of-self : goal.invariant_of-self
invariant_of-self c =
    let p = c.self.inside in
    let new = c.set_content.new.self in (
      λ unspent.
          let fit : IsFit p.expander.here p.source × IsReported p.rules p.expander.here p.source = c.self.invariant.0 unspent in
          elim c.match-set_content.branch [
            | in-Ok w ↦
                (let h = w.in-Ok.ensures {u = tt} in
                (fit_added (chars c.args.name.now) h.0 p.source new h.2 p.expander.here fit.0, reported_added (chars c.args.name.now) h.0 p.source new h.2 p.rules p.expander.here fit.1))
            | in-Err-Fault w ↦
                (let h = rw w.in-Err-Fault.field-0-is at (w.in-Err-Fault.ensures {u = tt}) in
                subst (λ (s : Source). IsFit p.expander.here s × IsReported p.rules p.expander.here s) (sym h.1) fit)
            | in-Err-OutOfMemory w ↦
                (let h = rw w.in-Err-OutOfMemory.field-0-is at (w.in-Err-OutOfMemory.ensures {u = tt}) in
                subst (λ (s : Source). IsFit p.expander.here s × IsReported p.rules p.expander.here s) (sym h) fit)
          ],
      c.self.invariant.1,
      λ e. cc,
    )
