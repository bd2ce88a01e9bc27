use Rattle.std.proofs.Common.{ap, refl, subst, sym, string_bytes}
use Rattle.glslpp_html.proofs.Showing.{shows_text}
use Rattle.glslpp_html.proofs.Sources.{IsPieceFrom, piece_from, piece_written}
use Rattle.glslpp_html.proofs.source.Writer.push_up_to.Goals as goal

pub returns-clause-written : goal.returns-clause-written
returns-clause-written c =
    let piece = c.unwrap_or-piece.result.now in
    let taken = piece_from c.args.self.now.source.now c.args.self.now.done c.args.end c.get.result _ c.requires.reached c.get.ensures.cases refl in
    piece_written c.args.self.now _ piece c.args.end c.requires
    (shows_text (string_bytes c.args.self.now.text) (string_bytes c.push_text.new.page) piece c.in_ok-push_text.ensures)
    (subst (IsPieceFrom c.args.self.now.source.now c.args.self.now.done c.args.end) (ap (λ p. p.now) (sym c.unwrap_or-piece.ensures)) taken)
    c.unwrap_or-piece.utf8 refl refl
