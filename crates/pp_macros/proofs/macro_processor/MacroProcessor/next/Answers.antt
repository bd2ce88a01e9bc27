use Rattle.std.proofs.Common.{◌≡◌, ◌∙◌, ap, sym, refl, inl, inr, true}
use Rattle.std.specs.Prelude.{◌⊎◌}
use Rattle.pp_model.specs.Painting.{is_one_of}
use Rattle.pp_model.specs.declared.read.Read.{Read}
use Rattle.pp_macros.specs.inner.Ahead.{read_of}
use Rattle.pp_macros.specs.inner.Defined.{Macro}
use Rattle.pp_macros.specs.inner.Nesting.{open_names}
use Rattle.pp_macros.proofs.defined_names.ReaderNamesLemmas.{value_none, value_opened}
use Rattle.pp_macros.proofs.open_frames.KnownLemmas.{value_not_open, value_open}
use Rattle.pp_macros.proofs.taking.FrameTurnLemmas.{frame_pauses, frame_gives, frame_opens, opens_nothing, paint_added, paint_kept}
use Rattle.pp_macros.proofs.macro_processor.MacroProcessor.next.Goals.{then-ahead-via-then-ahead, then-ahead-via-else-ahead+then-is_open}
use Rattle.pp_macros.proofs.macro_processor.MacroProcessor.next.Goals as goal

-- the number of the token ahead is right
pub number_of-requires : goal.number_of-requires
number_of-requires g c = c.in-Some.ensures.number _ c.requires.known.here

-- a pause
pub returns-in_default : goal.returns-in_default
returns-in_default g c =
    let some = sym c.has_frames.ensures ∙ c.if-not-has_frames.false in (
      some,
      sym c.in_default.ensures.ahead,
      frame_pauses c.args.self.now (g.L.MeLexer.reader c.args.lexer.now) c.requires.waits c.requires.free some c.in_default.ensures.ahead,
    )

-- a token that is no name, or whose name was never defined
pub returns-in_default-number_of : goal.returns-in_default-number_of
returns-in_default-number_of g c =
    let r = g.L.MeLexer.reader c.args.lexer.now in
    let read : Read = read_of c.in-Some.ahead in
    let numbers = c.in_default-number_of.ensures in
    frame_gives c.args.self.now r c.requires.waits c.requires.free (sym c.has_frames.ensures ∙ c.if-not-has_frames.false)
    read c.in-Some.ensures.ahead (sym c.is_line_name.ensures ∙ c.if-is_line_name.false) read.painted
    (paint_kept (open_names c.args.self.now) read (sym (value_not_open _ read.token.value c.args.self.now c.requires.known numbers)))
    c.in-Some.ensures.holds (opens_nothing r read (value_none r read.token.value numbers))

-- a token that is painted, or whose name is open
pub returns-then-ahead : goal.returns-then-ahead
returns-then-ahead g c =
    let read : Read = read_of c.in-Some.ahead in
    let painted : (read.painted ≡ true) ⊎ (is_one_of (open_names c.args.self.now) read.token.value ≡ true) = elim c.then-ahead.branch [
      | then-ahead-via-then-ahead w ↦ inl w.if-ahead.true
      | then-ahead-via-else-ahead+then-is_open w ↦
          inr (sym (w.is_open.ensures ∙ value_open _ read.token.value c.in-Some-number_of.id c.args.self.now c.requires.known c.in-Some-number_of.ensures) ∙ w.if-is_open.true)
    ] in
    frame_gives c.args.self.now (g.L.MeLexer.reader c.args.lexer.now) c.requires.waits c.requires.free (sym c.has_frames.ensures ∙ c.if-not-has_frames.false)
    read c.in-Some.ensures.ahead (sym c.is_line_name.ensures ∙ c.if-is_line_name.false) true
    (paint_added (open_names c.args.self.now) read painted) c.in-Some.ensures.holds refl

-- a name that isn't defined
pub returns-in_default-get_define : goal.returns-in_default-get_define
returns-in_default-get_define g c =
    let r = g.L.MeLexer.reader c.args.lexer.now in
    let read : Read = read_of c.in-Some.ahead in
    frame_gives c.args.self.now r c.requires.waits c.requires.free (sym c.has_frames.ensures ∙ c.if-not-has_frames.false)
    read c.in-Some.ensures.ahead (sym c.is_line_name.ensures ∙ c.if-is_line_name.false) read.painted
    (paint_kept (open_names c.args.self.now) read (sym (c.is_open.ensures ∙ value_open _ read.token.value c.in-Some-number_of.id c.args.self.now c.requires.known c.in-Some-number_of.ensures) ∙ c.if-is_open.false))
    c.in-Some.ensures.holds
    (opens_nothing r read (value_opened r c.in-Some-number_of.id read.token.value _ c.in_default-get_define.ensures.opened c.in-Some-number_of.ensures))

-- the name of a macro without parentheses
pub returns : goal.returns
returns g c =
    let r = g.L.MeLexer.reader c.args.lexer.now in
    let read : Read = read_of c.in-Some.ahead in
    frame_opens c.args.self.now r c.requires.waits c.requires.free (sym c.has_frames.ensures ∙ c.if-not-has_frames.false)
    read c.in-Some.ensures.ahead (sym c.is_line_name.ensures ∙ c.if-is_line_name.false) read.painted
    (paint_kept (open_names c.args.self.now) read (sym (c.is_open.ensures ∙ value_open _ read.token.value c.in-Some-number_of.id c.args.self.now c.requires.known c.in-Some-number_of.ensures) ∙ c.if-is_open.false))
    _ (rw c.if-ahead.false (sym (value_opened r c.in-Some-number_of.id read.token.value _ c.in-Some-get_define.ensures.opened c.in-Some-number_of.ensures)))
    c.in-Some-get_define.ensures.numbered
    (ap (λ (m : Macro). m.definition.function_like) (sym c.deref.ensures) ∙ sym c.is_function_like.ensures ∙ c.if-is_function_like.false)
