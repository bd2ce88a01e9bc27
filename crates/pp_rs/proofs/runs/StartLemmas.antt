-- A preprocessor at the start of a source stands for the start of its run.
use Rattle.std.proofs.Common.{◌≡◌, ℕ, List, [], None, true, false, refl, arith}
use Rattle.std.specs.Prelude.{pos}
use Rattle.std.proofs.lemmas.List.{append-nil}
use Rattle.pp_lexer.specs.Location.{nowhere}
use Rattle.pp_lexer.specs.Items.{places_by}
use Rattle.pp_lexer.specs.Spots.{spots_of}
use Rattle.pp_lexer.specs.declared.rules.Rules.{Rules}
use Rattle.pp_model.specs.Places.{source_text}
use Rattle.pp_model.specs.Run.{items_by}
use Rattle.pp_rs.specs.Comes.{start_by as run_start}
use Rattle.pp_rs.specs.Kept.{Preprocessing, Stands, errors_left, from_text}
use Rattle.pp_rs.specs.inner.Stands.{reading}
use Rattle.pp_macros.specs.LexerErrors.{lexer_errors_by}
use Rattle.pp_directives.proofs.EndedLemmas.{start_ended}
use Rattle.pp_directives.proofs.ErrorsShownLemmas.{start_shown}
use Rattle.pp_directives.proofs.LinedLemmas.{items_lined}

-- what it keeps
abbrev pub start_by : Rules → List ℕ → Preprocessing
start_by rules text = record {
  expander = record { held = None; frames = [] };
  source = record {
    rules = rules;
    text = source_text;
    earlier = record { text = false; directive = false };
    around = [];
    rest = items_by rules text;
    places = places_by rules (spots_of text);
    over = true;
    error_place = None;
    definitions = [];
    blocks = [];
    line_offset = pos 0;
    spent = false;
    has_text = false;
    has_directive = false;
    dead_for_good = false;
    contents = 0;
  };
  spent = false;
  place = nowhere;
  last = from_text 0;
  name_call = None;
  rules = rules;
}

-- it stands for the state in which a run of its items begins
pub start_stands : (rules : Rules) (text : List ℕ) → Stands (start_by rules text) (run_start rules (items_by rules text))
unfolding Stands
start_stands rules text = record {
  held = refl;
  list = refl;
  reader = record {
    reader = record {
      rules = refl;
      here = reading _ _ (record {
        text = refl;
        rest = refl;
        within = omega arith;
        line_offset = refl;
        lined = items_lined rules text;
        ended = start_ended rules (spots_of text);
        shown = start_shown rules (spots_of text);
        lines = λ after. refl;
        blocks = record { dead = []; own = []; split = refl; count = refl; not_live = λ some. absurd (some refl); stand = tt };
        truths = tt;
        unfinished = refl;
        remembers_text = refl;
        remembers_directive = refl;
        directives = λ after. refl;
        off_line = λ live left. refl;
      });
      around = tt;
      earlier = refl;
      definitions = refl;
      contents = refl;
      unspent = refl;
    };
    dead = (refl, tt);
    numbered = tt;
    read = omega arith;
    known = tt;
  };
  hidden = refl;
  goes = λ is. cc;
}

-- all errors of its text are still to be reported
pub start_errors : (rules : Rules) (text : List ℕ) → errors_left (start_by rules text) ≡ lexer_errors_by rules text
unfolding errors_left
start_errors rules text = append-nil (lexer_errors_by rules text)
