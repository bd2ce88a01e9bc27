-- What options ask for, as a call takes it. No contract of a public call cites this.
use Rattle.std.specs.Prelude.{ℕ, Bool, Some, None, is_some}
use Rattle.pp_c.specs.Options.{rules_in, asking_rules_in, unless_zero, most_in, most_asking_in, stream_rules}
use Rattle.pp_c.specs.declared.options.Options.{Options}
use Rattle.pp_c.specs.declared.options.Setting.{Setting}

abbrev pub setting_in : Options → Setting
setting_in options = record {
  rules = rules_in options;
  budget = unless_zero options.budget;
  most_items = most_in options;
  passes = None;
}

-- the same for a call that asks for texts, after this many lines
abbrev pub asking_setting : Options → ℕ → Setting
asking_setting options passed = record {
  rules = asking_rules_in options;
  budget = unless_zero options.budget;
  most_items = Some (most_asking_in options);
  passes = Some passed;
}

-- the same for a stream with these flags
abbrev pub stream_setting : Options → ℕ → Setting
stream_setting options flags = record {
  rules = stream_rules options flags;
  budget = unless_zero options.budget;
  most_items = None;
  passes = None;
}

-- the call takes texts
abbrev pub takes_texts : Setting → Bool
takes_texts setting = is_some setting.passes
