use Rattle.std.proofs.Common.{◌+◌, ◌∙◌, drop, sym, ap}
use Rattle.pp_macros.specs.inner.Frames.{Frame}
use Rattle.pp_macros.proofs.open_frames.FrameLemmas.{none_read, passes_given}
use Rattle.pp_macros.proofs.frames.Frame.pass_token.Goals as goal

pub returns-clause-step : goal.returns-clause-step
returns-clause-step c =
    ap (λ (f : Frame). record f { body = drop (c.self.inside.position + 1) c.self.inside.opened.value.definition.body }) c.self.view_is
    ∙ passes_given c.args.self.now c.self.inside.opened.value.definition c.self.inside.position (record {
      reads = ap (λ (f : Frame). f.reading) (sym c.self.view_is) ∙ none_read _ (sym c.is_reading.ensures ∙ c.if-is_reading.false);
      parameters = ap (λ (f : Frame). f.parameters) (sym c.self.view_is);
      body = ap (λ (f : Frame). f.body) (sym c.self.view_is);
    }) c.requires
