-- A session over all that it heard, the last first.
use Rattle.std.specs.Prelude.{List, [], ◌∷◌, ◌++◌}
use Rattle.v1_translate.specs.Heard.{Heard}
use Rattle.v1_translate.specs.Messages.{reaction}
use Rattle.v1_translate.specs.State.{Terms, V1State, Saying, Asking, start}

-- the state is the fold over all that was heard
abbrev pub state_after : Terms → List Heard → V1State
state_after terms [] = start
state_after terms (heard ∷ past) = (reaction terms (state_after terms past) heard).after

-- what was said, in its order
abbrev pub said_after : Terms → List Heard → List Saying
said_after terms [] = []
said_after terms (heard ∷ past) =
    said_after terms past ++ (reaction terms (state_after terms past) heard).says

-- what was asked of the pool, in its order
abbrev pub asked_after : Terms → List Heard → List Asking
asked_after terms [] = []
asked_after terms (heard ∷ past) =
    asked_after terms past ++ (reaction terms (state_after terms past) heard).asks ∷ []
