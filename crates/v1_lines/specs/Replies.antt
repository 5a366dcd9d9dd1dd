-- What is written to a miner: replies and notices of JSON-RPC 1.0, as serde_json's compact text.
use Rattle.std.specs.Prelude.{ℕ, Option, None, Some, List, [], ◌∷◌, ◌++◌, codes}
use Rattle.serde_json.specs.Data.{Data, null, number, unsigned, string, array, object, no_items, item, no_members, member}
use Rattle.serde_json.specs.Written.{compact_text}
use Rattle.v1_lines.specs.declared.errors.V1Error.{V1Error}
use Rattle.v1_lines.specs.Errors.{other_error, error_number, error_text, error_for_code}

-- a value's line, with its end
abbrev pub written_line : Data → List ℕ
written_line value = compact_text value ++ 10 ∷ []

abbrev pub reply_value : Data → Data → Data → Data
reply_value error id answer =
    object (member (codes "error") error (member (codes "id") id
    (member (codes "result") answer no_members)))

abbrev pub answer_value : Data → Data → Data
answer_value id answer = reply_value null id answer

abbrev pub error_value : ℕ → List ℕ → Data
error_value code text =
    array (item (number (unsigned code)) (item (string text) (item null no_items)))

abbrev pub error_reply : Data → V1Error → Data
error_reply id error = reply_value (error_value (error_number error) (error_text error)) id null

-- a code that has no error of its own is passed on as a text
abbrev pub refusal_by : Option V1Error → Data → List ℕ → Data
refusal_by (Some error) id code = error_reply id error
refusal_by None id code = reply_value (error_value other_error code) id null

abbrev pub refusal_reply : Data → List ℕ → Data
refusal_reply id code = refusal_by (error_for_code code) id code

-- what answers no request
abbrev pub notice_value : List ℕ → Data → Data
notice_value method params =
    object (member (codes "id") null (member (codes "method") (string method)
    (member (codes "params") params no_members)))

abbrev pub set_difficulty_value : ℕ → Data
set_difficulty_value difficulty =
    notice_value (codes "mining.set_difficulty")
    (array (item (number (unsigned difficulty)) no_items))
