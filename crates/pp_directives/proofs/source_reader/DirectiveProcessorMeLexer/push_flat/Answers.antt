use Rattle.std.proofs.Common.{refl}
use Rattle.pp_macros.specs.inner.Reader.{IsReadOnto, of_source, none_read}
use Rattle.pp_macros.proofs.taking.RunLemmas.{flat_more, read_falls}
use Rattle.pp_directives.proofs.source_reader.DirectiveProcessorMeLexer.push_flat.Goals as goal

pub words-init : goal.words-init
words-init c = record { flat = none_read _ _ refl refl; in_text = c.if-not-is_in_text.ensures {u = tt} refl }

pub words-preserved : goal.words-preserved
words-preserved c =
    let pushed = c.in_ok-is_parenthesis.ensures {u = tt} in
    let onto : IsReadOnto (of_source c.words.self) c.words.tokens.items (of_source c.push_word.new.self) c.push_word.new.tokens.items
    = rw c.in-Some.is at pushed.onto in
    record {
      flat = flat_more _ _ _ _ _ _ _ c.words.invariant.flat onto (rw c.in-Some.is at (pushed.nests _ onto.read onto.is)) c.if-is_parenthesis.false;
      in_text = pushed.stays;
    }

pub words-smaller : goal.words-smaller
words-smaller c =
    let onto : IsReadOnto (of_source c.words.self) c.words.tokens.items (of_source c.push_word.new.self) c.push_word.new.tokens.items
    = rw c.in-Some.is at (c.in_ok-is_parenthesis.ensures {u = tt}).onto in
    read_falls _ _ _ _ onto

pub returns-then-not-is_in_text : goal.returns-then-not-is_in_text
returns-then-not-is_in_text c = record {
  between = of_source c.args.self.now;
  some = c.args.tokens.now.items;
  flat = none_read _ _ refl refl;
  last = (refl, refl);
}
