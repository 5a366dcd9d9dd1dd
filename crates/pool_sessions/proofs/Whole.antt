-- A session over a link, from its greeting to its leaving.
use Rattle.std.proofs.Common.{◌≡◌, ℕ, ◌<◌, Bool, true, false, List, ◌++◌, Option, Some, Ok, length, take, ap, subst, ◌∙◌, length-append, inl, inr, arith}
use Rattle.std.proofs.lemmas.Grind.{flat_map-append}
use Rattle.pool_io.specs.declared.turn.Turn.{Turn}
use Rattle.pool_io.specs.Steps.{BringsSteps, ReadStep, bytes_in, steps_of}
use Rattle.pool_io.proofs.Stepping.{bytes_in-append}
use Rattle.pool_network.specs.Seen.{LinkSeen}
use Rattle.pool_history.specs.declared.events.Role.{Role}
use Rattle.pool_history.specs.Calls.{PoolCall}
use Rattle.session_steps.specs.declared.ends.SessionEnd.{SessionEnd}
use Rattle.session_steps.specs.declared.manner.Manner.{Manner}
use Rattle.session_steps.specs.Steps.{turns_in}
use Rattle.v2_sessions.specs.declared.beginning.FirstPiece.{FirstPiece}
use Rattle.v2_sessions.specs.Beginning.{Begins, IsRestOfSession, begun_state}
use Rattle.v2_sessions.specs.Good.{IsGoodEnd}
use Rattle.v2_sessions.specs.Running.{TakesAll, has_ended}
use Rattle.v2_sessions.specs.Sessions.{IsSession}
use Rattle.v2_sessions.proofs.Good.{ends_good, left_over, none_left, whole_told}
use Rattle.v2_sessions.proofs.Openings.{TookNone, begun_session}
use Rattle.v1_translate.specs.State.{Terms}
use Rattle.v1_sessions.specs.Running.{IsRestOfLines}
use Rattle.v1_sessions.specs.States.{begun_lines}
use Rattle.v1_sessions.specs.Steps as lines
use Rattle.v1_sessions.specs.Chains.{runs_on, steps_on}
use Rattle.v1_sessions.proofs.WholeSessions.{lines_blame_none}
use Rattle.pool_sessions.specs.Courses.{Course, Framed, IsCourse, IsGoodIn, IsGoodSpeech, IsServed, Lined, has_ended_on, speaks_lines, turns_on}
use Rattle.pool_sessions.proofs.Lines.{lines_begun}
use Rattle.pool_sessions.proofs.Speaking.{speaks_front, speaks_miner, speaks_none}

-- a session that took bytes
pub record ServedSome {A : Type 0} (worker : A → ℕ) (does : A → PoolCall → A → Type 0) (terms : Terms) (manner : Manner) (l l' : LinkSeen) (a a' : A)
    (reason : SessionEnd) : Type 0 where
  pub served : IsServed worker does terms manner l l' a a' reason
  pub some : 0 < length (bytes_in (turns_on served.course))

framed : {A : Type 0} {worker : A → ℕ} {does : A → PoolCall → A → Type 0} {terms : Terms} {manner : Manner} {l l' : LinkSeen} {a a' : A} {reason : SessionEnd}
    → (session : IsSession worker does manner l l' a a' reason) → speaks_lines manner.role (bytes_in (turns_in session.runs.steps)) ≡ false
    → IsServed worker does terms manner l l' a a' reason
framed session speaks = record {
  course = Framed session.runs.steps;
  is_course = record {
    comes = record { last = session.last; follows = session.runs.follows; over = session.over };
    speaks = speaks;
  };
  took = session.runs.took;
  ended = session.runs.ended;
  put = session.runs.put;
  reads = session.runs.reads;
  writes = session.runs.writes;
  acts = session.runs.acts;
  same = session.runs.same;
}

-- no byte came
pub unspoken : {A : Type 0} {worker : A → ℕ} {does : A → PoolCall → A → Type 0} {terms : Terms} {manner : Manner} {l l' : LinkSeen} {a : A} {reason : SessionEnd}
    → TookNone worker does manner l l' a reason → IsServed worker does terms manner l l' a a reason
unspoken {manner = manner} none = framed none.0 (speaks_none manner.role (bytes_in (turns_in none.0.runs.steps)) none.1)

-- the first bytes are some
some_came : (manner : Manner) (buffer : List ℕ) (first : FirstPiece) (l l' : LinkSeen) → Begins manner buffer l l' (Ok first) → 0 < length (take first.count buffer)
some_came manner buffer first l l' (inl begins) = begins.waits.1.some
some_came manner buffer first l l' (inr ungreeted) = cc

longer : (piece more taken : List ℕ) → 0 < length piece → taken ≡ piece ++ more → 0 < length taken
longer piece more taken some is = omega (arith, some, ap length is, length-append piece more)

speaks_so : (role : Role) (piece more taken : List ℕ) (said : Bool) → 0 < length piece → taken ≡ piece ++ more → speaks_lines role piece ≡ said → speaks_lines role taken ≡ said
speaks_so role piece more taken said some is speaks = ap (speaks_lines role) is ∙ speaks_front role piece more some ∙ speaks

-- frames came
pub frames_served : {A : Type 0} {worker : A → ℕ} {does : A → PoolCall → A → Type 0} {terms : Terms} {l m l' : LinkSeen} {a a' : A} {reason : SessionEnd}
    (manner : Manner) → 0 < manner.idle_turns → (buffer : List ℕ) (first : FirstPiece) → Begins manner buffer l m (Ok first)
    → speaks_lines manner.role (take first.count buffer) ≡ false
    → IsRestOfSession worker does (begun_state manner first.waiting (take first.count buffer)) m l' a a' reason → ServedSome worker does terms manner l l' a a' reason
unfolding framed
frames_served {l = l} {m = m} manner waits buffer first begins speaks rest =
    let whole = begun_session manner waits buffer first begins rest in
    let piece = take first.count buffer in
    let some = some_came manner buffer first l m begins in
    let taken = bytes_in (turns_in whole.0.runs.steps) in
    record {
      served = framed whole.0 (speaks_so manner.role piece whole.1 taken false some whole.2 speaks);
      some = longer piece whole.1 taken some whole.2;
    }

-- lines came
pub lines_served : {A : Type 0} {worker : A → ℕ} {does : A → PoolCall → A → Type 0} {terms : Terms} {l m l' : LinkSeen} {a a' : A} {reason : SessionEnd}
    (manner : Manner) (buffer : List ℕ) (first : FirstPiece) → Begins manner buffer l m (Ok first) → speaks_lines manner.role (take first.count buffer) ≡ true
    → IsRestOfLines worker does terms (begun_lines manner first.waiting (take first.count buffer)) m l' a a' reason → ServedSome worker does terms manner l l' a a' reason
lines_served {worker = worker} {does = does} {terms = terms} {l = l} {m = m} {l' = l'} {a = a} {a' = a'} manner buffer first (inl begins) speaks rest =
    let piece = take first.count buffer in
    let begun = lines_begun worker does terms manner l m a (speaks_miner manner.role piece speaks) buffer first begins in
    let whole = runs_on begun.runs rest.runs in
    let some = begins.waits.1.some in
    let more = bytes_in (lines.turns_of rest.runs.steps) in
    let taken : bytes_in (lines.turns_of whole.steps) ≡ piece ++ more =
    ap (λ xs. bytes_in (lines.turns_of xs)) (steps_on begun.runs rest.runs)
    ∙ ap bytes_in (flat_map-append lines.turn_of begun.runs.steps rest.runs.steps)
    ∙ bytes_in-append (lines.turns_of begun.runs.steps) (lines.turns_of rest.runs.steps) ∙ ap (λ b. b ++ more) begun.bytes in
    record {
      served = record {
        course = Lined whole.steps;
        is_course = record {
          comes = record { last = rest.last; follows = whole.follows; over = rest.over };
          speaks = speaks_so manner.role piece more (bytes_in (lines.turns_of whole.steps)) true some taken speaks;
        };
        took = whole.took;
        ended = whole.ended;
        put = whole.put;
        reads = whole.reads;
        writes = whole.writes;
        acts = whole.acts;
        same = whole.same;
      };
      some = longer piece more (bytes_in (lines.turns_of whole.steps)) some taken;
    }
lines_served manner buffer first (inr ungreeted) speaks rest = cc

-- ---- good input

-- what was told begins as what was taken
told_speaks : (manner : Manner) (told left : List Turn) (taken : List ReadStep) (said : Bool) → steps_of told ≡ taken ++ steps_of left → 0 < length (bytes_in taken)
    → speaks_lines manner.role (bytes_in taken) ≡ said → IsGoodSpeech manner told → IsGoodIn said manner told
told_speaks manner told left taken said whole some speaks input =
    subst (λ b. IsGoodIn b manner told)
    (speaks_so manner.role (bytes_in taken) (bytes_in (steps_of left)) (bytes_in (steps_of told)) said some
    (ap bytes_in whole ∙ bytes_in-append taken (steps_of left)) speaks) input

good_on : (worker : ℕ) (terms : Terms) (manner : Manner) (course : Course) (reason : SessionEnd) (told : List Turn) (left : Option (List Turn))
    → IsCourse worker terms manner course reason → BringsSteps (Some told) left (turns_on course) → TakesAll (has_ended_on course) (Some told) (turns_on course)
    → 0 < length (bytes_in (turns_on course)) → IsGoodSpeech manner told → IsGoodEnd reason
good_on worker terms manner (Framed steps) reason told left is brought all some input =
    let good = told_speaks manner told brought.0 (turns_in steps) false brought.2 some is.speaks input in
    ends_good worker manner is.comes.last steps reason good.frames (left_over told left steps brought) is.comes.follows is.comes.over
    (whole_told told left steps brought good.frames good.whole) (λ ended. none_left told left steps brought (has_ended steps) ended all) good.good
good_on worker terms manner (Lined steps) reason told left is brought all some input =
    lines_blame_none worker terms manner steps reason told left is.comes brought all
    (told_speaks manner told brought.0 (lines.turns_of steps) true brought.2 some is.speaks input)

pub served_good : {A : Type 0} {worker : A → ℕ} {does : A → PoolCall → A → Type 0} {terms : Terms} {manner : Manner} {l l' : LinkSeen} {a a' : A} {reason : SessionEnd}
    → ServedSome worker does terms manner l l' a a' reason → (told : List Turn) → l.source.left ≡ Some told → IsGoodSpeech manner told → IsGoodEnd reason
served_good {worker = worker} {terms = terms} {manner = manner} {l' = l'} {a = a} {reason = reason} served told is input =
    good_on (worker a) terms manner served.served.course reason told l'.source.left served.served.is_course
    (subst (λ left. BringsSteps left l'.source.left (turns_on served.served.course)) is served.served.took)
    (subst (λ left. TakesAll (has_ended_on served.served.course) left (turns_on served.served.course)) is served.served.ended) served.some input
