use Rattle.std.proofs.Common.{◌≡◌, ◌≢◌, get_or, ◌∙◌, ℕ, ◌-◌, ◌≤◌, arith, length, refl, sym, ap, Bool, true, false, ◌||◌, ◌&&◌, not, List}
use Rattle.std.proofs.lemmas.Option.{slice_get_read}
use Rattle.pp_lexer.specs.Lexed.{Seen}
use Rattle.pp_model.specs.Lines.{ends_line}
use Rattle.pp_model.specs.Sights.{is_directive_hash}
use Rattle.pp_model.specs.SourceReader.{is_on_directive_line}
use Rattle.pp_model.proofs.source.DirectivePlaceLemmas.{on_line_before}
use Rattle.pp_reference.proofs.source_text.+is_on_directive_line.Goals as goal

-- a position on the line of a directive, by the item before it
on_line_by : (source : List Seen) (position : ℕ) (s : Seen) → position ≢ 0 → position ≤ length source → s ≡ get_or source (position - 1) s
    → is_on_directive_line source position ≡ (is_directive_hash s.item || (not (ends_line s.item) && is_on_directive_line source (position - 1)))
on_line_by source position s some within is =
    on_line_before source position s (omega (arith, some))
    (slice_get_read source (length source) (position - 1) s refl (omega (arith, some, within)) is)

pub returns-then-is_directive_hash : goal.returns-then-is_directive_hash
returns-then-is_directive_hash t c =
    let s = c.index-source-position.result in
    let on = is_on_directive_line c.args.source.now (c.args.position - 1) in
    let step = on_line_by c.args.source.now c.args.position s (λ e. omega (arith, e, c.if-position-eq0.false)) c.requires c.index-source-position.is in
    let hash : is_directive_hash s.item ≡ true = rw (← c.before-2.view_is) (sym c.is_directive_hash.ensures ∙ c.if-is_directive_hash.true) in
    c.if-is_directive_hash.true ∙ sym (step ∙ ap (λ (h : Bool). h || (not (ends_line s.item) && on)) hash)

pub returns-then-not-ends_line : goal.returns-then-not-ends_line
returns-then-not-ends_line t c =
    let s = c.index-source-position.result in
    let on = is_on_directive_line c.args.source.now (c.args.position - 1) in
    let step = on_line_by c.args.source.now c.args.position s (λ e. omega (arith, e, c.if-position-eq0.false)) c.requires c.index-source-position.is in
    let hash : is_directive_hash s.item ≡ false = rw (← c.before-2.view_is) (sym c.is_directive_hash.ensures ∙ c.if-is_directive_hash.false) in
    let last : ends_line s.item ≡ false = rw (← c.before-2.view_is) (sym c.ends_line.ensures ∙ c.if-not-ends_line.true) in
    c.is_on_directive_line.ensures
    ∙ sym (step ∙ ap (λ (h : Bool). h || (not (ends_line s.item) && on)) hash ∙ ap (λ (e : Bool). not e && on) last)
