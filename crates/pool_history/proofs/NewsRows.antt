-- Worked news: of an opening, of standard channels one by one and as a group, and of what owes nothing.
use Rattle.std.proofs.Common.{true, false, ◌≡◌, ◌++◌, ℕ, None, Some, Option, List, [], ◌∷◌, refl}
use Rattle.std.specs.Prelude.{replicate}
use Rattle.coinbase.specs.Compact.{compact}
use Rattle.pool_history.specs.declared.events.Event.{Event}
use Rattle.pool_history.specs.declared.events.Event.TheVariants as event
use Rattle.pool_history.specs.declared.events.Kind.TheVariants as kind
use Rattle.pool_history.specs.declared.events.Role.TheVariants as role
use Rattle.pool_history.specs.declared.telling.Note.{Note}
use Rattle.pool_history.specs.declared.telling.Note.TheVariants as note
use Rattle.pool_history.specs.Channels.{OpenChannel}
use Rattle.pool_history.specs.Jobs.{FromTemplate, Job}
use Rattle.pool_history.specs.News.{news, root_for}
use Rattle.pool_history.proofs.Given.{start, enters, opens, comes, tips, leaves, template_of, tipped}

-- the two parts of each job's coinbase
abbrev pub prefix : List ℕ
prefix = (0x02 ∷ 0x00 ∷ 0x00 ∷ 0x00 ∷ 0x01 ∷ []) ++ replicate 32 0x00 ++ (0xff ∷ 0xff ∷ 0xff ∷ 0xff ∷ 0x0e ∷ 0x51 ∷ 0x51 ∷ [])

abbrev pub suffix : List ℕ
suffix = (0xff ∷ 0xff ∷ 0xff ∷ 0xff ∷ 0x01 ∷ 0xe8 ∷ 0x03 ∷ []) ++ replicate 6 0x00 ++ (0x01 ∷ 0x51 ∷ 0x00 ∷ 0x00 ∷ 0x00 ∷ 0x00 ∷ [])

-- a job as a channel that rolls, or a group, is told it
abbrev pub told_job : ℕ → ℕ → Option ℕ → Note
told_job channel number min_ntime = note.Extended channel number min_ntime 0x20000000 true [] prefix suffix

-- a second channel is opened when one job is live and another is future: the live one without a time, the tip, the future one
abbrev pub opened_late : List Event
opened_late = event.Open 0 kind.Extended (0x62 ∷ []) 0 (0 ∷ 0 ∷ 0 ∷ 1 ∷ []) ∷ event.Template 0 (template_of 6 true) ∷ tipped

pub news-opening : news 6 opened_late 0
    ≡ told_job 2 1 None ∷ note.PrevHash 2 1 (replicate 32 0x11) 1000000 0x207fffff ∷ told_job 2 2 None ∷ []
unfolding compact
news-opening = refl

-- another session is told nothing of it, nor anybody of a class, a close or a leave
pub news-others_opening : news 6 opened_late 1 ≡ []
news-others_opening = refl

pub news-of_nothing : news 7 (leaves ∷ event.Close 0 1 ∷ event.Class 0 1 8 ∷ opened_late) 0 ≡ []
news-of_nothing = refl

-- an opening before any template owes nothing
pub news-opening_first : news 2 (opens ∷ enters ∷ start ∷ []) 0 ≡ []
news-opening_first = refl

-- a template that is live at once is told with the tip's time, by the ids of the channels
pub news-live_template : news 7 (event.Template 0 (template_of 7 false) ∷ opened_late) 0 ≡ told_job 1 3 (Some 1000000) ∷ told_job 2 3 (Some 1000000) ∷ []
unfolding compact
news-live_template = refl

-- a standard channel beside an extended one: without the flag it is told in its group, after the others
abbrev pub with_standard : ℕ → List Event
with_standard flags =
    event.Open 0 kind.Extended (0x61 ∷ []) 0 (0 ∷ 0 ∷ 0 ∷ 1 ∷ []) ∷ event.Open 0 kind.Standard (0x61 ∷ []) 0 (replicate 4 0) ∷ event.Enter 0 role.Solo flags ∷ start ∷ []

pub news-group : news 4 (comes ∷ with_standard 0) 0 ≡ told_job 2 1 None ∷ told_job 0x80000000 1 None ∷ []
unfolding compact
news-group = refl

pub news-group_tip : news 5 (tips ∷ comes ∷ with_standard 0) 0
    ≡ note.PrevHash 2 1 (replicate 32 0x11) 1000000 0x207fffff ∷ note.PrevHash 0x80000000 1 (replicate 32 0x11) 1000000 0x207fffff ∷ []
news-group_tip = refl

-- with the flag it is told by itself, in its place, with the root for its own extranonce
abbrev pub standard_channel : OpenChannel
standard_channel =
    record { id = 1; session = 0; kind = kind.Standard; account = 0x61 ∷ []; lead = replicate 4 0; opening_class = 0; sets = [] }

abbrev pub first_job : Job
first_job = record { number = 1; session = 0; at = 4; live_at = None; source = FromTemplate (template_of 5 true) }

pub news-single : news 4 (comes ∷ with_standard 1) 0
    ≡ note.Standard 1 1 None 0x20000000 (root_for (0x51 ∷ []) standard_channel first_job) ∷ told_job 2 1 None ∷ []
unfolding compact
news-single = refl

pub news-single_tip : news 5 (tips ∷ comes ∷ with_standard 1) 0
    ≡ note.PrevHash 1 1 (replicate 32 0x11) 1000000 0x207fffff ∷ note.PrevHash 2 1 (replicate 32 0x11) 1000000 0x207fffff ∷ []
news-single_tip = refl
