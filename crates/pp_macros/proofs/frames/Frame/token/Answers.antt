use Rattle.std.proofs.Common.{◌∙◌, ℕ, Some, sym, ap, subst}
use Rattle.pp_model.specs.Painting.{read_in}
use Rattle.pp_macros.specs.inner.Ahead.{given_by}
use Rattle.pp_macros.specs.inner.Bodies.{IsEntryAt, noted_at}
use Rattle.pp_macros.specs.inner.Defined.{Macro, AreNumbered}
use Rattle.pp_macros.specs.inner.Frames.{Frame}
use Rattle.pp_macros.specs.declared.define.BodyEntry.TheVariants as entry
use Rattle.pp_macros.proofs.open_frames.FrameLemmas.{none_read, steps_at}
use Rattle.pp_macros.proofs.frames.Frame.token.Goals as goal

pub returns-in-Some-Token-clause-token : goal.returns-in-Some-Token-clause-token
returns-in-Some-Token-clause-token c =
    let here : IsEntryAt c.self.inside.opened.value.definition c.self.inside.position (entry.Token c.in-Some-Token.token c.in-Some-Token.number)
    = rw (c.in-Some-Token.field-0-is, c.deref.ensures) at c.in-Some-Token.ensures.entry in
    let text = c.text.ensures ∙ ap (λ (m : Macro). m.definition.text) c.deref-in-Some-Token.ensures ∙ ap (λ (f : Frame). f.text) c.self.view_is in
    ap (λ (t : ℕ). Some (read_in t c.in-Some-Token.token)) text
    ∙ sym (ap given_by (steps_at c.args.self.now c.self.inside.opened.value.definition c.self.inside.position _ (record {
      reads = ap (λ (f : Frame). f.reading) (sym c.self.view_is) ∙ none_read _ (sym c.is_reading.ensures ∙ c.if-is_reading.false);
      parameters = ap (λ (f : Frame). f.parameters) (sym c.self.view_is);
      body = ap (λ (f : Frame). f.body) (sym c.self.view_is);
    }) here))

pub returns-in-Some-Token-clause-number : goal.returns-in-Some-Token-clause-number
returns-in-Some-Token-clause-number c = λ names right.
    let tells : AreNumbered names c.self.inside.opened.value.noted → AreNumbered names (noted_at (entry.Token c.in-Some-Token.token c.in-Some-Token.number))
    = rw (c.in-Some-Token.field-0-is, c.deref.ensures) at (c.in-Some-Token.ensures.noted names) in
    tells (subst (λ (f : Frame). AreNumbered names f.noted) (sym c.self.view_is) right)
