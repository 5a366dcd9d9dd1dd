-- Turns that are heard are heard of what is seen of who hears.
use Rattle.std.proofs.Common.{◌≡◌, inl, inr, None, Some, Option, List, [], ◌∷◌, ap, ◌∙◌}
use Rattle.pool_io.specs.declared.turn.Turn.{Turn}
use Rattle.pool_io.specs.Seen.{SinkSeen}
use Rattle.pool_network.specs.Seen.{LinkSeen}
use Rattle.link_turns.specs.declared.waiting.Waiting.{Waiting}
use Rattle.session_steps.specs.declared.ends.SessionEnd.{SessionEnd}
use Rattle.link_hearing.specs.Hearing.{EndsBy, Hearing, HearsAll, HearsEach, HearsOne, hearing_at}

module _ {H S N : Type 0} (see : H → S) (name : H → N) (hears : H → SinkSeen → Turn → Option SessionEnd → H → SinkSeen → Type 0)
    (heard : S → SinkSeen → Turn → Option SessionEnd → S → SinkSeen → Type 0)
    (shows : (old new : H) (k l : SinkSeen) (told : Turn) (over : Option SessionEnd) → hears old k told over new l → (name new ≡ name old) × heard (see old) k told over (see new) l) where
  abbrev seen : Hearing H → Hearing S
  seen h = hearing_at h.waiting (see h.hearer) h.link

  one : (old new : Hearing H) (told : Turn) (over : Option SessionEnd) → HearsOne hears old told over new
      → (name new.hearer ≡ name old.hearer) × HearsOne heard (seen old) told over (seen new)
  one old new told over h =
      let shown = shows old.hearer new.hearer h.middle.sink new.link.sink told over h.heard in (
        shown.0,
        record {
          answered = h.answered;
          buffer = h.buffer;
          short = h.short;
          middle = h.middle;
          takes = h.takes;
          is_turn = h.is_turn;
          within = h.within;
          counted = h.counted;
          source = h.source;
          heard = shown.1;
        },
      )

  each : (old new : Hearing H) (turns : List Turn) → HearsEach hears old turns new → (name new.hearer ≡ name old.hearer) × HearsEach heard (seen old) turns (seen new)
  each old new [] h = (ap (λ (x : Hearing H). name x.hearer) h, ap seen h)
  each old new (told ∷ turns) h =
      let first = one old h.0 told None h.1 in
      let later = each h.0 new turns h.3 in
      (later.0 ∙ first.0, (seen h.0, first.1, h.2, later.1))

  ends : (last new : Hearing H) (reason : SessionEnd) → EndsBy hears last reason new → (name new.hearer ≡ name last.hearer) × EndsBy heard (seen last) reason (seen new)
  ends last new reason (inl by) =
      let first = one last new by.told (Some reason) by.heard in
      (first.0, inl (record { told = by.told; heard = first.1 }))
  ends last new reason (inr (inl by)) =
      let first = one last new by.told None by.heard in
      (first.0, inr (inl (record { told = by.told; heard = first.1; limit = by.limit; reached = by.reached; reason_is = by.reason_is })))
  ends last new reason (inr (inr by)) =
      (ap name by.hearer, inr (inr (record { buffer = by.buffer; takes = by.takes; hearer = ap see by.hearer; reason_is = by.reason_is })))

  pub hears_all : (waiting : Waiting) (old new : H) (before after : LinkSeen) (reason : SessionEnd) → HearsAll hears (hearing_at waiting old before) reason new after
      → (name new ≡ name old) × HearsAll heard (hearing_at waiting (see old) before) reason (see new) after
  hears_all waiting old new before after reason h =
      let on = each (hearing_at waiting old before) h.last h.turns h.on in
      let end = ends h.last (hearing_at h.left new after) reason h.ends in
      (end.0 ∙ on.0, record { turns = h.turns; last = seen h.last; on = on.1; left = h.left; ends = end.1 })
