-- The longest identifier is a first character and all that may continue it.
use Rattle.std.proofs.Common.{◌≡◌, ℕ, suc, List, ◌∷◌, take, true, refl, ◌∙◌, ap, Some, option_map, arith}
use Rattle.unicode_ident.specs.Ident.{is_xid_continue}
use Rattle.pp_lexer.specs.declared.lexer.char_iterator.Spot.{Spot}
use Rattle.pp_lexer.specs.Identifiers.{is_start, is_identifier, begins_identifier}
use Rattle.pp_lexer.specs.Longest.{longest, front_len}
use Rattle.pp_lexer.specs.Reading.{Reading, letters, first_of, past, advanced_of, advanced}
use Rattle.pp_lexer.specs.Spellings.{nothing, many}
use Rattle.pp_lexer.proofs.words.LongestLemmas.{longest_step, longest_all}

pub longest_identifier : (c : ℕ) (cs : List ℕ) → is_start c ≡ true → longest is_identifier (c ∷ cs) ≡ suc (front_len is_xid_continue cs)
unfolding is_identifier
longest_identifier c cs s =
    longest_step is_identifier (many is_xid_continue nothing) c cs (rw s refl) (λ w. rw s refl) ∙ ap suc (longest_all is_xid_continue cs)

-- the text and the reader once an identifier is read
pub record IsRead (ss : List Spot) (last : Spot) (t : List ℕ) (r : Reading) : Type 0 where
  pub text : t ≡ take (longest is_identifier (letters ss)) (letters ss)
  pub state : r ≡ advanced_of (longest is_identifier (letters ss)) ss last

pub identifier_read : (ss : List Spot) (last : Spot) (c : ℕ) (t : List ℕ) (q r : Reading) → begins_identifier (letters ss) ≡ true
    → Some c ≡ option_map (λ s. s.c) (first_of ss) → q ≡ past ss last → t ≡ c ∷ take (front_len is_xid_continue (letters q.rest)) (letters q.rest)
    → r ≡ advanced (front_len is_xid_continue (letters q.rest)) q → IsRead ss last t r
identifier_read ss last c t q r h k e l u = grind (arith, longest_identifier)
