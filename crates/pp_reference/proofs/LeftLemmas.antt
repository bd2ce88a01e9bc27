-- What stays for what a fault took.
use Rattle.std.proofs.Common.{◌≡◌, ◌∙◌, ap, sym, subst, refl, rules, Bool, true, false, List, [], inl, inr, ◌⊎◌}
use Rattle.std.proofs.Common.{Option, Some, None, Result, Ok, Err, drop-drop}
use Rattle.std.proofs.lemmas.Str.{chars-IsAscii}
use Rattle.std.specs.Prelude.{codes, is_some}
use Rattle.std.specs.Option.{option_map_or}
use Rattle.std.specs.Result.{result_ok}
use Rattle.std.specs.Str.{chars}
use Rattle.pp_lexer.specs.Lexed.{Seen}
use Rattle.pp_lexer.specs.declared.token.Location.{Location}
use Rattle.pp_expression.specs.Answers.{◌>>=◌}
use Rattle.pp_model.specs.Places.{Fault}
use Rattle.pp_model.specs.Names.{Name}
use Rattle.pp_model.specs.Definitions.{Definitions, with_change}
use Rattle.pp_model.specs.Lines.{first_name}
use Rattle.pp_model.specs.DefineLines.{free_name}
use Rattle.pp_model.specs.SourceReader.{SourceReader}
use Rattle.pp_model.specs.inner.Acts.{after_word}
use Rattle.pp_model.specs.Moves.{BlockFacts}
use Rattle.pp_model.specs.Faults.{word_line, left_word, left_line, definitions_left}
use Rattle.pp_model.specs.declared.definition.Placed.{Placed}
use Rattle.pp_model.specs.declared.directive.Directive.{Directive}
use Rattle.pp_model.specs.declared.directive.Directive.TheVariants as d
use Rattle.pp_model.specs.declared.sight.Sight.{Sight}
use Rattle.pp_model.specs.declared.sight.Sight.TheVariants as sight
use Rattle.pp_reference.specs.inner.Changes.{meaning_of}
use Rattle.pp_reference.specs.inner.Halting.{Meets}
use Rattle.pp_reference.specs.inner.ReaderState.{ReaderState, reader_of}
use Rattle.pp_reference.specs.declared.definitions.Change.{Change}
use Rattle.pp_reference.specs.declared.stop.Halt.{Halt}
use Rattle.pp_reference.specs.declared.stop.Halt.TheVariants as halt

-- texts of letters are their own characters
pub chars-elif : chars (codes "elif") ≡ codes "elif"
chars-elif = chars-IsAscii (codes "elif") (search rules)

pub chars-endif : chars (codes "endif") ≡ codes "endif"
chars-endif = chars-IsAscii (codes "endif") (search rules)

pub chars-if : chars (codes "if") ≡ codes "if"
chars-if = chars-IsAscii (codes "if") (search rules)

pub chars-pragma : chars (codes "pragma") ≡ codes "pragma"
chars-pragma = chars-IsAscii (codes "pragma") (search rules)

pub word_stays : (word : Location) (live : Bool) (block : Option BlockFacts) (directive : Directive) (s : Sight) (name : Name)
    → s ≡ sight.Directive directive word → left_word live block directive ≡ Some name → left_line live block s ≡ word_line word name
word_stays word live block directive s name is stays = rw is (ap (λ n. option_map_or (word_line word) n []) stays)

pub elif_of_block : (live : Bool) (block : Option BlockFacts) (directive : Directive) → directive ≡ d.Elif → is_some block ≡ true
    → left_word live block directive ≡ Some (codes "elif")
elif_of_block live None directive is some = absurd cc
elif_of_block live (Some facts) directive is some = rw is refl

pub endif_of_block : (live : Bool) (block : Option BlockFacts) (directive : Directive) → directive ≡ d.Endif → is_some block ≡ true
    → left_word live block directive ≡ Some (codes "endif")
endif_of_block live None directive is some = absurd cc
endif_of_block live (Some facts) directive is some = rw is refl

pub elif_outside : (live : Bool) (block : Option BlockFacts) (directive : Directive) → directive ≡ d.Elif → is_some block ≡ false → live ≡ true
    → left_word live block directive ≡ Some (codes "if")
elif_outside live None directive is none on = rw (is, on) refl
elif_outside live (Some facts) directive is none on = absurd cc

pub opened_dead : (live : Bool) (block : Option BlockFacts) (directive : Directive) → (directive ≡ d.If) ⊎ ((directive ≡ d.Ifdef) ⊎ (directive ≡ d.Ifndef)) → live ≡ false
    → left_word live block directive ≡ Some (codes "if")
opened_dead live None directive (inl is) dead = rw (is, dead) refl
opened_dead live None directive (inr (inl is)) dead = rw (is, dead) refl
opened_dead live None directive (inr (inr is)) dead = rw (is, dead) refl
opened_dead live (Some facts) directive (inl is) dead = rw (is, dead) refl
opened_dead live (Some facts) directive (inr (inl is)) dead = rw (is, dead) refl
opened_dead live (Some facts) directive (inr (inr is)) dead = rw (is, dead) refl

pub item_line : (live : Bool) (block : Option BlockFacts) (directive : Directive) → (directive ≡ d.Version) ⊎ ((directive ≡ d.Extension) ⊎ (directive ≡ d.Pragma)) → live ≡ true
    → left_word live block directive ≡ Some (codes "pragma")
item_line live None directive (inl is) on = rw (is, on) refl
item_line live None directive (inr (inl is)) on = rw (is, on) refl
item_line live None directive (inr (inr is)) on = rw (is, on) refl
item_line live (Some facts) directive (inl is) on = rw (is, on) refl
item_line live (Some facts) directive (inr (inl is)) on = rw (is, on) refl
item_line live (Some facts) directive (inr (inr is)) on = rw (is, on) refl

-- ---- an `#undef`

undefine_by : (r : SourceReader) (word : Location) (name : Result Placed Fault) → first_name word (after_word r) >>= free_name r.rules ≡ name
    → definitions_left true (sight.Directive d.Undef word) r ≡ option_map_or (λ first. with_change r.definitions first.name None) (result_ok name) r.definitions
undefine_by r word name is =
    ap (λ items. option_map_or (λ first. with_change r.definitions first.name None) (result_ok (first_name word items >>= free_name r.rules)) r.definitions)
    (sym (drop-drop 2 r.position r.items))
    ∙ ap (λ n. option_map_or (λ first. with_change r.definitions first.name None) (result_ok n) r.definitions) is

pub undefined_name : (r : SourceReader) (word : Location) (answer : Result Placed Halt) (first : Placed) → answer ≡ Ok first
    → Meets answer (first_name word (after_word r) >>= free_name r.rules) → definitions_left true (sight.Directive d.Undef word) r ≡ with_change r.definitions first.name None
undefined_name r word answer first is meets = undefine_by r word (Ok first) (rw is at meets)

pub undefined_nothing : (r : SourceReader) (word : Location) (answer : Result Placed Halt) (fault : Fault) → answer ≡ Err (halt.Fault fault)
    → Meets answer (first_name word (after_word r) >>= free_name r.rules) → definitions_left true (sight.Directive d.Undef word) r ≡ r.definitions
undefined_nothing r word answer fault is meets = undefine_by r word (Err fault) (rw is at meets)

module _ (old : ReaderState) (live : Bool) (s : Sight) (word : Location) (items : List Seen) (answer : Result Placed Halt)
    (seen : s ≡ sight.Directive d.Undef word) (on : live ≡ true) (after : items ≡ after_word (reader_of old))
    (meets : Meets answer (first_name word items >>= free_name old.rules)) where
  there : Meets answer (first_name word (after_word (reader_of old)) >>= free_name old.rules)
  there = subst (λ (x : List Seen). Meets answer (first_name word x >>= free_name old.rules)) after meets

  same : definitions_left live s (reader_of old) ≡ definitions_left true (sight.Directive d.Undef word) (reader_of old)
  same = ap (λ (b : Bool). definitions_left b s (reader_of old)) on ∙ ap (λ (x : Sight). definitions_left true x (reader_of old)) seen

  pub name_undefined : (first : Placed) (changes : List Change) → answer ≡ Ok first → meaning_of changes ≡ with_change (meaning_of old.changes) first.name None
      → reader_of (record old { changes = changes }) ≡ record (reader_of old) { definitions = definitions_left live s (reader_of old) }
  name_undefined first changes is changed =
      ap (λ (m : Definitions). record (reader_of old) { definitions = m }) (changed ∙ sym (same ∙ undefined_name (reader_of old) word answer first is there))

  pub nothing_undefined : (fault : Fault) → answer ≡ Err (halt.Fault fault)
      → reader_of old ≡ record (reader_of old) { definitions = definitions_left live s (reader_of old) }
  nothing_undefined fault is =
      ap (λ (m : Definitions). record (reader_of old) { definitions = m }) (sym (same ∙ undefined_nothing (reader_of old) word answer fault is there))
