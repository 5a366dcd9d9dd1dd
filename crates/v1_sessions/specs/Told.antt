-- What a reply of the pool tells a session of lines: what the messages say by which a session of
-- frames is answered (Stratum V2, "Mining Protocol").
use Rattle.std.specs.Prelude.{ℕ, Bool, true, false, List, [], ◌∷◌, ◌++◌, map}
use Rattle.block_header.specs.Target.{target}
use Rattle.pool_history.specs.declared.asking.Request.TheVariants as request
use Rattle.pool_history.specs.declared.events.Kind.TheVariants as kind
use Rattle.pool_history.specs.declared.replies.Opened as replies
use Rattle.pool_history.specs.declared.replies.Reply.{Reply}
use Rattle.pool_history.specs.declared.replies.Reply.TheVariants as reply
use Rattle.pool_history.specs.declared.telling.Note.{Note}
use Rattle.pool_history.specs.declared.telling.Note.TheVariants as note
use Rattle.pool_history.specs.Codes.{open_code, share_code}
use Rattle.pool_history.specs.Headers.{extranonce_prefix, rolled_length}
use Rattle.session_steps.specs.declared.about.About.{About}
use Rattle.session_steps.specs.declared.about.About.TheVariants as topic
use Rattle.session_steps.specs.States.{Stage, Asking, Leaving}
use Rattle.v1_translate.specs.Heard.{Told, Opened, NotOpened, Target, Accepted, Refused, Tipped, Nothing, told_job, Heard, Message, Named}

-- a channel that was opened: its lead is said, and the miner rolls what is left of twelve bytes
abbrev pub opened_told : replies.Opened → Told
opened_told opened =
    Opened (record {
      channel = opened.channel;
      target = target opened.class;
      lead = extranonce_prefix kind.V1 opened.lead;
      rolled = rolled_length kind.V1 opened.lead;
    })

-- news: jobs and tips
abbrev pub note_told : Note → Told
note_told (note.Extended channel_id job_id min_ntime version rolling path prefix suffix) =
    told_job min_ntime
    (record { number = job_id; version = version; path = path; prefix = prefix; suffix = suffix })
note_told (note.PrevHash channel_id job_id prev_hash min_ntime nbits) =
    Tipped (record {
      job = job_id;
      prev_hash = prev_hash;
      min_ntime = min_ntime;
      nbits = nbits;
    })
note_told _ = Nothing

-- an answer that is about a share says which one
abbrev pub share_told : About → (ℕ → Told) → List Told
share_told (topic.Share sub) told = told sub.sequence ∷ []
share_told _ told = []

-- what an answer tells: one thing at most
abbrev pub answer_told : About → Reply → List Told
answer_told about (reply.Opened opened) = opened_told opened ∷ []
answer_told about (reply.OpenRefused error) = NotOpened (open_code error) ∷ []
answer_told about (reply.Target channel class) = Target (target class) ∷ []
answer_told about (reply.Credited work) = share_told about Accepted
answer_told about (reply.Refused failed) =
    share_told about (λ sequence. Refused sequence (share_code failed))
answer_told about _ = []

-- what news tell
abbrev pub news_told : Reply → List Told
news_told (reply.News at notes) = map note_told notes
news_told _ = []

-- all that a reply tells, in its order
abbrev pub told_in : About → Reply → List Told
told_in about answer = answer_told about answer ++ news_told answer

-- an account was taken
abbrev pub is_named : Reply → Bool
is_named reply.Named = true
is_named _ = false

-- what a session hears of a reply, by what it had asked
abbrev pub heard_of : Stage → About → Reply → List Heard
heard_of (Asking (request.Name channel identity)) about answer = Named (is_named answer) ∷ []
heard_of (Leaving reason) about answer = []
heard_of _ about answer = map Message (told_in about answer)
