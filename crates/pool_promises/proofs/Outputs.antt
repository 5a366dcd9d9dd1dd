-- What is written to a miner only grows, until it joins again.
use Rattle.std.proofs.Common.{◌≡◌, ℕ, ◌==◌, Bool, true, false, Option, None, Some, Result, Ok, Err, List, [], ◌∷◌, ◌++◌, map, inl, inr, refl, sym, ap, ◌∙◌, append_assoc, append-nil}
use Rattle.std.proofs.lemmas.Bool.{cases_Bool, eqb-true}
use Rattle.std.specs.List.{filter}
use Rattle.std.specs.Prelude.{nat_le}
use Rattle.serde_json.specs.Data.{Data}
use Rattle.pool_base.specs.Lists.{Begins}
use Rattle.v1_translate.specs.Heard.{Told, Opened, NotOpened, Target, Accepted, Refused, Future, Live, Tipped, Nothing}
use Rattle.v1_translate.specs.State.{SentShare, Saying, Answer, CodeRefusal, Asking, Silence, Open, Update, Share, Name, Terms, Reaction}
use Rattle.v1_translate.specs.Lines.{line_reaction, yes}
use Rattle.v1_translate.specs.Messages.{message_reaction, name_reaction}
use Rattle.v1_translate.specs.Saying.{line_of, with_lines}
use Rattle.proxy_rules.specs.declared.events.ProxyEvent.{ProxyEvent}
use Rattle.proxy_rules.specs.declared.events.ProxyEvent.TheVariants as event
use Rattle.proxy_rules.specs.declared.refusals.ProxyRefusal.{ProxyRefusal}
use Rattle.proxy_rules.specs.declared.refusals.ProxyRefusal.TheVariants.{UpstreamLost}
use Rattle.proxy_rules.specs.Frames.{UpTold, SetUp, Tells, told_up}
use Rattle.proxy_rules.specs.Jobs.{jobs_told}
use Rattle.proxy_rules.specs.Laws.{output_at}
use Rattle.proxy_rules.specs.Miners.{at_caller, is_joined, left, miner_of, new_miner, output_in, reacted, rejoined, relayed_seat, relayed_session, relayed_to, told_all, told_session, told_to, with_line, with_new, with_said}
use Rattle.proxy_rules.specs.Refusals.{code_of}
use Rattle.proxy_rules.specs.State.{Miner, Relay, Seat, SentOn, Session, terms_of}
use Rattle.proxy_rules.specs.Steps.{Offer, after, answer_those, asked, changed, handed_over, handed_over_session, heard, heard_up, line_heard, line_said, line_said_by, may_take, named, named_session, offer, said_each, seat_of, seated, seated_session, shared_by, step, subscribed}

-- ---- one miner

pub record Grew (old new : Miner) : Type 0 where
  pub caller : new.caller ≡ old.caller
  pub output : Begins old.output new.output

pub begins_same : (xs : List ℕ) → Begins xs xs
begins_same xs = ([], append-nil xs)

pub begins_after : (xs ys zs : List ℕ) → Begins xs ys → Begins ys zs → Begins xs zs
begins_after xs ys zs one two = (one.0 ++ two.0, sym (append_assoc xs one.0 two.0) ∙ ap (λ (l : List ℕ). l ++ two.0) one.1 ∙ two.1)

same : (miner : Miner) → Grew miner miner
same miner = record { caller = refl; output = begins_same miner.output }

grew_after : (a b c : Miner) → Grew a b → Grew b c → Grew a c
grew_after a b c one other = record { caller = other.caller ∙ one.caller; output = begins_after a.output b.output c.output one.output other.output }

lines_grow : (before : List ℕ) (says : List Saying) → Begins before (with_lines before says)
lines_grow before [] = begins_same before
lines_grow before (said ∷ more) =
    begins_after before (before ++ line_of said) (with_lines (before ++ line_of said) more) (line_of said, refl) (lines_grow (before ++ line_of said) more)

said_grew : (miner : Miner) (session : Session) (says : List Saying) → Grew miner (with_said miner session says)
said_grew miner session says = record { caller = refl; output = lines_grow miner.output says }

reacted_grew : (miner : Miner) (seat : Option Seat) (reaction : Reaction) → Grew miner (reacted miner seat reaction)
reacted_grew miner seat reaction = said_grew miner (record { seat = seat; v1 = reaction.after }) reaction.says

told_by : (terms : Terms) (told : Told) (miner : Miner) (session : Option Session) → Grew miner (told_session terms told miner session)
told_by terms told miner None = same miner
told_by terms told miner (Some session) = reacted_grew miner session.seat (message_reaction terms session.v1 told)

told_grew : (terms : Terms) (told : Told) (miner : Miner) → Grew miner (told_to terms told miner)
told_grew terms told miner = told_by terms told miner miner.session

told_all_grew : (terms : Terms) (told : List Told) (miner : Miner) → Grew miner (told_all terms told miner)
told_all_grew terms [] miner = same miner
told_all_grew terms (x ∷ told) miner =
    grew_after miner (told_to terms x miner) (told_all terms told (told_to terms x miner)) (told_grew terms x miner) (told_all_grew terms told (told_to terms x miner))

relayed_at : (terms : Terms) (told : Told) (miner : Miner) (session : Session) (seat : Option Seat) → Grew miner (relayed_seat terms told miner session seat)
relayed_at terms told miner session None = same miner
relayed_at terms told miner session (Some seat) = reacted_grew miner (Some seat) (message_reaction terms session.v1 told)

relayed_by : (terms : Terms) (told : Told) (miner : Miner) (session : Option Session) → Grew miner (relayed_session terms told miner session)
relayed_by terms told miner None = same miner
relayed_by terms told miner (Some session) = relayed_at terms told miner session session.seat

relayed_grew : (terms : Terms) (told : Told) (miner : Miner) → Grew miner (relayed_to terms told miner)
relayed_grew terms told miner = relayed_by terms told miner miner.session

line_grew : (said : Saying) (miner : Miner) → Grew miner (with_line said miner)
line_grew said miner = record { caller = refl; output = (line_of said, refl) }

said_by : (terms : Terms) (line : List ℕ) (miner : Miner) (session : Option Session) → Grew miner (line_said_by terms line miner session)
said_by terms line miner None = same miner
said_by terms line miner (Some session) = reacted_grew miner session.seat (line_reaction terms session.v1 line)

heard_grew : (terms : Terms) (line : List ℕ) (miner : Miner) → Grew miner (line_said terms line miner)
heard_grew terms line miner = said_by terms line miner miner.session

named_by : (account : List ℕ) (miner : Miner) (session : Option Session) → Grew miner (named_session account miner session)
named_by account miner None = same miner
named_by account miner (Some session) = reacted_grew miner session.seat (name_reaction session.v1 (may_take session.v1.account account))

named_grew : (account : List ℕ) (miner : Miner) → Grew miner (named account miner)
named_grew account miner = named_by account miner miner.session

handed_by : (sequence : ℕ) (miner : Miner) (session : Option Session) → Grew miner (handed_over_session sequence miner session)
handed_by sequence miner None = same miner
handed_by sequence miner (Some session) = said_grew miner _ []

handed_grew : (sequence : ℕ) (miner : Miner) → Grew miner (handed_over sequence miner)
handed_grew sequence miner = handed_by sequence miner miner.session

seated_by : (seat : Seat) (miner : Miner) (session : Option Session) → Grew miner (seated_session seat miner session)
seated_by seat miner None = same miner
seated_by seat miner (Some session) = said_grew miner _ []

subscribed_grew : (relay : Relay) (given : Result Offer ProxyRefusal) (miner : Miner) → Grew miner (subscribed (terms_of relay.base) relay.tip relay.jobs given miner)
subscribed_grew relay (Err refusal) miner = told_grew (terms_of relay.base) (NotOpened (code_of refusal)) miner
subscribed_grew relay (Ok given) miner =
    let seat : Miner = seated (seat_of given) miner in
    let told : Miner = told_to (terms_of relay.base) (Opened given.channel) seat in
    grew_after miner seat _ (seated_by (seat_of given) miner miner.session)
    (grew_after seat told _ (told_grew (terms_of relay.base) (Opened given.channel) seat) (told_all_grew (terms_of relay.base) (jobs_told relay.tip relay.jobs) told))

-- ---- all miners

abbrev pub AllGrew : List Miner → List Miner → Type 0
AllGrew [] [] = Unit {0}
AllGrew [] (b ∷ bs) = ⊥
AllGrew (a ∷ as') [] = ⊥
AllGrew (a ∷ as') (b ∷ bs) = Grew a b × AllGrew as' bs

all_same : (miners : List Miner) → AllGrew miners miners
all_same [] = tt
all_same (miner ∷ miners) = (same miner, all_same miners)

all_after : (xs ys zs : List Miner) → AllGrew xs ys → AllGrew ys zs → AllGrew xs zs
all_after [] [] [] one other = tt
all_after [] [] (z ∷ zs) one other = absurd other
all_after [] (y ∷ ys) zs one other = absurd one
all_after (x ∷ xs) [] zs one other = absurd one
all_after (x ∷ xs) (y ∷ ys) [] one other = absurd other
all_after (x ∷ xs) (y ∷ ys) (z ∷ zs) one other = (grew_after x y z one.0 other.0, all_after xs ys zs one.1 other.1)

at_grew : (caller : ℕ) (change : Miner → Miner) (miners : List Miner) → ((miner : Miner) → Grew miner (change miner)) → AllGrew miners (at_caller caller change miners)
at_grew caller change [] grows = tt
at_grew caller change (miner ∷ miners) grows = elim (cases_Bool (miner.caller == caller)) [
  | inl here ↦ rw here (grows miner, all_same miners)
  | inr other ↦ rw other (same miner, at_grew caller change miners grows)
]

map_grew : (change : Miner → Miner) (miners : List Miner) → ((miner : Miner) → Grew miner (change miner)) → AllGrew miners (map change miners)
map_grew change [] grows = tt
map_grew change (miner ∷ miners) grows = (grows miner, map_grew change miners grows)

each_grew : (said : Data → Saying) (list : List SentOn) (miners : List Miner) → AllGrew miners (said_each said list miners)
each_grew said [] miners = all_same miners
each_grew said (sent ∷ more) miners =
    let next : List Miner = at_caller sent.caller (with_line (said sent.id)) miners in
    all_after miners next (said_each said more next) (at_grew sent.caller (with_line (said sent.id)) miners (line_grew (said sent.id))) (each_grew said more next)

-- so each caller's output grew
found_grew : (caller : ℕ) (xs ys : List Miner) → AllGrew xs ys → Begins (output_in (miner_of caller xs)) (output_in (miner_of caller ys))
found_grew caller [] [] grew = begins_same []
found_grew caller [] (y ∷ ys) grew = absurd grew
found_grew caller (x ∷ xs) [] grew = absurd grew
found_grew caller (x ∷ xs) (y ∷ ys) grew = elim (cases_Bool (x.caller == caller)) [
  | inl here ↦
      let there : (y.caller == caller) ≡ true = ap (λ c. c == caller) grew.0.caller ∙ here in
      rw (here, there) grew.0.output
  | inr other ↦
      let there : (y.caller == caller) ≡ false = ap (λ c. c == caller) grew.0.caller ∙ other in
      rw (other, there) (found_grew caller xs ys grew.1)
]

-- ---- another caller joins

one_more : (caller other : ℕ) (miners : List Miner) → (other == caller) ≡ false → miner_of caller (miners ++ new_miner other ∷ []) ≡ miner_of caller miners
one_more caller other [] away = rw away refl
one_more caller other (miner ∷ miners) away = elim (cases_Bool (miner.caller == caller)) [
  | inl here ↦ rw here refl
  | inr there ↦ rw there (one_more caller other miners away)
]

others_stay : (caller other : ℕ) (miners : List Miner) → (other == caller) ≡ false → miner_of caller (at_caller other rejoined miners) ≡ miner_of caller miners
others_stay caller other [] away = refl
others_stay caller other (miner ∷ miners) away = elim (cases_Bool (miner.caller == other)) [
  | inl here ↦
      let is : miner.caller ≡ other = eqb-true miner.caller other here in
      let not_it : (miner.caller == caller) ≡ false = ap (λ c. c == caller) is ∙ away in
      rw (here, not_it) refl
  | inr there ↦ rw there (elim (cases_Bool (miner.caller == caller)) [
    | inl own ↦ rw own refl
    | inr other_one ↦ rw other_one (others_stay caller other miners away)
  ])
]

another_joins : (caller other : ℕ) (found : Option Miner) (miners : List Miner) → (other == caller) ≡ false
    → miner_of caller (with_new other found miners) ≡ miner_of caller miners
another_joins caller other None miners away = one_more caller other miners away
another_joins caller other (Some miner) miners away = others_stay caller other miners away

-- ---- all events

abbrev pub is_join_of : ℕ → ProxyEvent → Bool
is_join_of caller (event.Join other) = other == caller
is_join_of caller _ = false

-- what was written to a caller is a front of what is
abbrev pub Writes : ℕ → Relay → Relay → Type 0
Writes caller old new = Begins (output_at caller old) (output_at caller new)

module _ (caller : ℕ) where
  writes_after : (a b c : Relay) → Writes caller a b → Writes caller b c → Writes caller a c
  writes_after a b c one other = begins_after (output_at caller a) (output_at caller b) (output_at caller c) one other

  answered : (test : SentOn → Bool) (said : Data → Saying) (relay : Relay) → Writes caller relay (answer_those test said relay)
  answered test said relay = found_grew caller relay.miners (said_each said (filter test relay.waiting) relay.miners) (each_grew said (filter test relay.waiting) relay.miners)

  told_some : (relay : Relay) (told : Told) → Writes caller relay (heard relay told)
  told_some relay (Opened channel) = begins_same _
  told_some relay (NotOpened code) = begins_same _
  told_some relay (Target target) = found_grew caller relay.miners (map (relayed_to (terms_of relay.base) (Target target)) relay.miners) (map_grew (relayed_to (terms_of relay.base) (Target target)) relay.miners (relayed_grew (terms_of relay.base) (Target target)))
  told_some relay (Accepted number) = answered (λ sent. nat_le sent.number number) (λ id. Answer id yes) relay
  told_some relay (Refused number code) = answered (λ sent. sent.number == number) (λ id. CodeRefusal id code) relay
  told_some relay (Future job) = found_grew caller relay.miners (map (relayed_to (terms_of relay.base) (Future job)) relay.miners) (map_grew (relayed_to (terms_of relay.base) (Future job)) relay.miners (relayed_grew (terms_of relay.base) (Future job)))
  told_some relay (Live job min_ntime) =
      found_grew caller relay.miners (map (relayed_to (terms_of relay.base) (Live job min_ntime)) relay.miners) (map_grew (relayed_to (terms_of relay.base) (Live job min_ntime)) relay.miners (relayed_grew (terms_of relay.base) (Live job min_ntime)))
  told_some relay (Tipped tip) = found_grew caller relay.miners (map (relayed_to (terms_of relay.base) (Tipped tip)) relay.miners) (map_grew (relayed_to (terms_of relay.base) (Tipped tip)) relay.miners (relayed_grew (terms_of relay.base) (Tipped tip)))
  told_some relay Nothing = begins_same _

  told_upstream : (relay : Relay) (told : UpTold) → Writes caller relay (heard_up relay told)
  told_upstream relay SetUp = elim (cases_Bool relay.is_set_up) [ inl is ↦ rw is (begins_same _) | inr not_yet ↦ rw not_yet (begins_same _) ]
  told_upstream relay (Tells told) = told_some relay told

  by_change : (relay : Relay) (other : ℕ) (change : Miner → Miner) → ((miner : Miner) → Grew miner (change miner)) → Writes caller relay (changed relay other change)
  by_change relay other change grows = found_grew caller relay.miners (at_caller other change relay.miners) (at_grew other change relay.miners grows)

  shares : (relay : Relay) (other : ℕ) (sent : Result SentShare ProxyRefusal) (id : Option Data) → Writes caller relay (shared_by relay other sent id)
  shares relay other sent None = begins_same _
  shares relay other (Err refusal) (Some id) = by_change relay other (with_line (CodeRefusal id (code_of refusal))) (line_grew (CodeRefusal id (code_of refusal)))
  shares relay other (Ok share) (Some id) = begins_same _

  asks : (relay : Relay) (other : ℕ) (asking : Asking) → Writes caller relay (asked relay other asking)
  asks relay other Silence = begins_same _
  asks relay other (Update channel class) = begins_same _
  asks relay other (Open class) =
      by_change relay other (subscribed (terms_of relay.base) relay.tip relay.jobs (offer relay)) (subscribed_grew relay (offer relay))
  asks relay other (Name account) = by_change relay other (named account) (named_grew account)
  asks relay other (Share share) =
      writes_after relay (changed relay other (handed_over share.sequence)) (asked relay other (Share share)) (by_change relay other (handed_over share.sequence) (handed_grew share.sequence))
      (shares (changed relay other (handed_over share.sequence)) other _ _)

  step_writes : (relay : Relay) (input : ProxyEvent) → is_join_of caller input ≡ false → Writes caller relay (step relay input)
  step_writes relay (event.Start user base) away = begins_same _
  step_writes relay (event.Up bytes) away = told_upstream relay (told_up bytes)
  step_writes relay event.UpEnd away = answered (λ sent. true) (λ id. CodeRefusal id (code_of UpstreamLost)) relay
  step_writes relay (event.Join other) away = elim (cases_Bool (is_joined other relay.miners)) [
    | inl is ↦ rw is (begins_same _)
    | inr new ↦ rw new (rw (another_joins caller other (miner_of other relay.miners) relay.miners away) (begins_same (output_in (miner_of caller relay.miners))))
  ]
  step_writes relay (event.Line other line) away =
      writes_after relay (changed relay other (line_said (terms_of relay.base) line)) (line_heard relay other line)
      (by_change relay other (line_said (terms_of relay.base) line) (heard_grew (terms_of relay.base) line))
      (asks (changed relay other (line_said (terms_of relay.base) line)) other _)
  step_writes relay (event.Leave other) away = found_grew caller relay.miners (at_caller other left relay.miners) (at_grew other left relay.miners (λ miner. record { caller = refl; output = begins_same miner.output }))

  -- none of these events is the caller's joining
  abbrev pub JoinsNot : List ProxyEvent → Type 0
  JoinsNot [] = Unit {0}
  JoinsNot (input ∷ inputs) = (is_join_of caller input ≡ false) × JoinsNot inputs

  pub all_write : (relay : Relay) (inputs : List ProxyEvent) → JoinsNot inputs → Writes caller relay (after relay inputs)
  all_write relay [] none = begins_same _
  all_write relay (input ∷ inputs) none = writes_after relay (step relay input) (after (step relay input) inputs) (step_writes relay input none.0) (all_write (step relay input) inputs none.1)
