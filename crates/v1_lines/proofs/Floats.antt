-- No float is written.
use Rattle.std.proofs.Common.{◌≡◌, ℕ, Option, None, Some, Result, Ok, Err, IfOk, List, [], ◌∷◌, false, codes, map, refl, ap, ◌∙◌}
use Rattle.serde_json.specs.Data.{Data, array}
use Rattle.serde_json.specs.View.{items_of, view}
use Rattle.serde_json.specs.Written.{has_float, items_have_float}
use Rattle.serde_json.specs.declared.value.Value.{Value}
use Rattle.v1_lines.specs.declared.errors.V1Error.{V1Error}
use Rattle.v1_lines.specs.Errors.{error_for_code}
use Rattle.v1_lines.specs.Jobs.{NotifyJob, hex_value, notify_params, notify_value}
use Rattle.v1_lines.specs.Replies.{notice_value, refusal_by, refusal_reply}

texts_without_floats : (hashes : List (List ℕ)) → items_have_float (items_of (map hex_value hashes)) ≡ false
texts_without_floats [] = refl
texts_without_floats (hash ∷ hashes) = texts_without_floats hashes

-- the branch, and what stands behind it
branch_without_floats : (job : NotifyJob) → has_float (notify_value job) ≡ false
branch_without_floats job = rw (texts_without_floats job.path) refl

pub notified_without_floats : {E : Type 0} (r : Result Value E) (params : Data) (job : NotifyJob)
    → IfOk r (λ notice. view notice ≡ notice_value (codes "mining.notify") params)
    → params ≡ array (items_of (notify_params job)) → IfOk r (λ notice. has_float (view notice) ≡ false)
notified_without_floats (Ok notice) params job written same =
    ap has_float (written ∙ ap (notice_value (codes "mining.notify")) same) ∙ branch_without_floats job
notified_without_floats (Err error) params job written same = tt

-- a reply has none where its id has none
by_without_floats : (found : Option V1Error) (id : Data) (code : List ℕ) → has_float id ≡ false → has_float (refusal_by found id code) ≡ false
by_without_floats None id code none = rw none refl
by_without_floats (Some error) id code none = rw none refl

pub refusal_without_floats : (id : Data) (code : List ℕ) → has_float id ≡ false → has_float (refusal_reply id code) ≡ false
refusal_without_floats id code none = by_without_floats (error_for_code code) id code none
