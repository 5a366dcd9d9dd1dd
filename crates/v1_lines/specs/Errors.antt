-- The errors of Stratum V1, and those that Stratum V2 error codes become (this project's own table).
use Rattle.std.specs.Prelude.{ℕ, if◌then◌else◌, Option, None, Some, List, codes}
use Rattle.std.specs.Str.{bytes_eq}
use Rattle.v1_lines.specs.declared.errors.V1Error.{V1Error}
use Rattle.v1_lines.specs.declared.errors.V1Error.TheVariants.{MalformedRequest, UnknownMethod, AlreadySubscribed, JobNotFound, DuplicateShare, LowDifficultyShare, UnauthorizedWorker, NotSubscribed}

-- what has no number of its own
abbrev pub other_error : ℕ
other_error = 20

abbrev pub error_number : V1Error → ℕ
error_number MalformedRequest = other_error
error_number UnknownMethod = other_error
error_number AlreadySubscribed = other_error
error_number JobNotFound = 21
error_number DuplicateShare = 22
error_number LowDifficultyShare = 23
error_number UnauthorizedWorker = 24
error_number NotSubscribed = 25

abbrev pub error_text : V1Error → List ℕ
error_text MalformedRequest = codes "malformed request"
error_text UnknownMethod = codes "unknown method"
error_text AlreadySubscribed = codes "already subscribed"
error_text JobNotFound = codes "job not found"
error_text DuplicateShare = codes "duplicate share"
error_text LowDifficultyShare = codes "low difficulty share"
error_text UnauthorizedWorker = codes "unauthorized worker"
error_text NotSubscribed = codes "not subscribed"

-- the error that has a number of its own for a code
unfoldable pub error_for_code : List ℕ → Option V1Error
error_for_code code =
    if bytes_eq code (codes "invalid-job-id") then Some JobNotFound
    else if bytes_eq code (codes "stale-share") then Some JobNotFound
    else if bytes_eq code (codes "duplicate-share") then Some DuplicateShare
    else if bytes_eq code (codes "difficulty-too-low") then Some LowDifficultyShare
    else if bytes_eq code (codes "invalid-channel-id") then Some NotSubscribed
    else None
