-- A reader of an included text X, with the text M around it, beside a reader of M with X inserted behind its first q items:
-- in X, behind it, and in texts that these include.
use Rattle.std.proofs.Common.{◌≡◌, ℕ, ◌+◌, ◌≤◌, Bool, true, ◌||◌, List, ◌∷◌, length, take}
use Rattle.pp_lexer.specs.Lexed.{Seen}
use Rattle.pp_model.specs.Blocks.{Truths, is_live}
use Rattle.pp_model.specs.IncludeLaws.{inserted_at}
use Rattle.pp_model.specs.SourceReader.{Suspended, Earlier, SourceReader, suspended_of, has_directive, has_live_text_before}
use Rattle.pp_model.specs.inner.Alike.{AlikeDefinitions}
use Rattle.pp_model.proofs.including.Insertion.{Agree}

-- two texts are read alike: they have the same items, and the same was read of them
pub record SameFrame (f g : Suspended) : Type 0 where
  pub items : f.items ≡ g.items
  pub position : f.position ≡ g.position
  pub offset : f.line_offset ≡ g.line_offset
  pub truths : f.truths ≡ g.truths
  pub unfinished : f.unfinished ≡ g.unfinished

module _ (M X : List Seen) (q : ℕ) where
  -- `f` is read in X with `outer` around it, which is M, and `g` in X as a part of M
  pub record InFrames (f outer g : Suspended) : Type 0 where
    pub items : f.items ≡ X
    pub outer_items : outer.items ≡ M
    pub outer_position : outer.position ≡ q
    pub offset : f.line_offset ≡ g.line_offset
    pub outer_offset : outer.line_offset ≡ g.line_offset
    pub outer_unfinished : outer.unfinished ≡ g.unfinished
    pub whole : g.items ≡ inserted_at q X M
    pub within : f.position ≤ length X
    pub position : g.position ≡ q + f.position
    pub agree : Agree q (length X) outer.truths f.truths g.truths
    pub live : is_live M outer.truths q ≡ true

  -- both are read in M behind X, of which `inner` are the truths
  pub record BehindFrames (f g : Suspended) : Type 0 where
    pub items : f.items ≡ M
    pub whole : g.items ≡ inserted_at q X M
    pub offset : f.line_offset ≡ g.line_offset
    pub unfinished : f.unfinished ≡ g.unfinished
    pub further : ℕ
    pub position : f.position ≡ q + further
    pub whole_position : g.position ≡ q + (length X + further)
    pub inner : Truths
    pub agree : Agree q (length X) f.truths inner g.truths
    pub live : is_live M f.truths q ≡ true

  -- the texts around two readers that read one more text alike, before which this came
  pub data Stacks (earlier : Earlier) : List Suspended → List Suspended → Type 0 where
    same_stack : (tops wholes : List Suspended) → tops ≡ wholes → Stacks earlier tops wholes
    in_stack : (f outer g : Suspended) (tops wholes rest : List Suspended) → InFrames f outer g
        → (has_live_text_before M outer.truths q ≡ true → earlier.text ≡ true)
        → (has_directive (take q M) ≡ true → earlier.directive ≡ true)
        → tops ≡ f ∷ outer ∷ rest → wholes ≡ g ∷ rest
        → Stacks earlier tops wholes
    behind_stack : (f g : Suspended) (tops wholes rest : List Suspended) (frames : BehindFrames f g)
        → (has_live_text_before X frames.inner (length X) ≡ true → earlier.text ≡ true)
        → (has_directive X ≡ true → earlier.directive ≡ true)
        → tops ≡ f ∷ rest → wholes ≡ g ∷ rest
        → Stacks earlier tops wholes
    under : (f g : Suspended) (tops wholes below whole_below : List Suspended) → SameFrame f g → Stacks earlier below whole_below
        → tops ≡ f ∷ below → wholes ≡ g ∷ whole_below
        → Stacks earlier tops wholes

-- what two readers have alike wherever they are
pub record AlikeRules (r s : SourceReader) : Type 0 where
  pub rules : r.rules ≡ s.rules
  pub definitions : AlikeDefinitions r.definitions s.definitions

module _ (M X : List Seen) (q : ℕ) where
  -- in the included text
  pub record InText (r s : SourceReader) : Type 0 where
    pub both : AlikeRules r s
    pub outer : Suspended
    pub around : r.around ≡ outer ∷ s.around
    pub frames : InFrames M X q (suspended_of r) outer (suspended_of s)
    pub text : r.earlier.text ≡ s.earlier.text || has_live_text_before M outer.truths q
    pub directive : r.earlier.directive ≡ s.earlier.directive || has_directive (take q M)

  -- behind it: whether text came in M before it is known of what was read there, too
  pub record BehindText (r s : SourceReader) : Type 0 where
    pub both : AlikeRules r s
    pub around : r.around ≡ s.around
    pub frames : BehindFrames M X q (suspended_of r) (suspended_of s)
    pub text_before : Bool
    pub text : r.earlier.text ≡ s.earlier.text || (text_before || has_live_text_before X frames.inner (length X))
    pub text_known : text_before ≡ true → has_live_text_before M r.truths (q + frames.further) ≡ true
    pub directive_before : Bool
    pub directive : r.earlier.directive ≡ s.earlier.directive || (directive_before || has_directive X)
    pub directive_known : directive_before ≡ true → has_directive (take (q + frames.further) M) ≡ true

  -- in one more text
  pub record SameText (r s : SourceReader) : Type 0 where
    pub both : AlikeRules r s
    pub frames : SameFrame (suspended_of r) (suspended_of s)
    pub earlier : r.earlier ≡ s.earlier
    pub around : Stacks M X q r.earlier r.around s.around

  pub data Related (r s : SourceReader) : Type 0 where
    in_text : InText r s → Related r s
    behind_text : BehindText r s → Related r s
    same_text : SameText r s → Related r s

-- both add the same to a line
pub same_offset : (M X : List Seen) (q : ℕ) (r s : SourceReader) → Related M X q r s → r.line_offset ≡ s.line_offset
same_offset M X q r s (in_text i) = i.frames.offset
same_offset M X q r s (behind_text b) = b.frames.offset
same_offset M X q r s (same_text e) = e.frames.offset

pub same_rules : (M X : List Seen) (q : ℕ) (r s : SourceReader) → Related M X q r s → AlikeRules r s
same_rules M X q r s (in_text i) = i.both
same_rules M X q r s (behind_text b) = b.both
same_rules M X q r s (same_text e) = e.both
