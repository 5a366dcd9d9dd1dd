-- What is kept of the classes that were set for one channel (this project's own).
use Rattle.std.specs.Prelude.{ℕ, List, map, reverse}
use Rattle.pool_history.specs.Channels.{ClassSet}
use Rattle.channels.specs.declared.settings.Setting.{Setting}

-- the settings that are kept, the last first
pub record ClassSettings : Type 0 where
  pub sets : List ClassSet
  -- so many more need no memory
  pub room : ℕ

-- a setting as it is shown
abbrev pub class_set : Setting → ClassSet
class_set setting = record { at = setting.at; class = setting.class }

-- the last of the settings stands first
abbrev pub sets_of : List Setting → List ClassSet
sets_of settings = map class_set (reverse settings)
