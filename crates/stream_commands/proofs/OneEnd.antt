-- The steps that a source brings decide the end, but for faults and lack of memory.
use Rattle.std.proofs.Common.{◌≡◌, ℕ, List, ◌++◌, refl, sym, ap, subst, ◌∙◌, inl, inr}
use Rattle.pool_io.specs.Steps.{ReadStep, bytes_in, IsAtLimit, IsIdleOut, IsBytesOut}
use Rattle.pool_io.proofs.Stepping.{bytes_in-append, longer, shorter, fronts_of, free_of}
use Rattle.stream_commands.specs.declared.end.End.{End}
use Rattle.stream_commands.specs.declared.end.End.TheVariants as end
use Rattle.stream_commands.specs.Duties.{Duty, IsSoundDuty}
use Rattle.stream_commands.specs.Limits.{bounds}
use Rattle.stream_commands.specs.Owing.{OwesWhole, OwesRefused, OwesAtLimit, EndsWith}
use Rattle.stream_commands.specs.Ending.{EndsAs, DecideEnd}
use Rattle.stream_commands.proofs.Fronts.{idle_or_bytes}

module _ (duty : Duty) (sound : IsSoundDuty duty) (steps : List ReadStep) where
  whole_refused : (text other : List ℕ) → OwesWhole duty steps text → OwesRefused duty steps other → ⊥
  whole_refused text other whole (inl refusal) =
      let bytes : bytes_in steps ≡ bytes_in refusal.front ++ bytes_in refusal.rest = ap bytes_in refusal.split ∙ bytes_in-append refusal.front refusal.rest in
      sound.whole_or_refused (bytes_in refusal.front) (bytes_in refusal.rest) text other (subst (λ (b : List ℕ). duty.Whole b text) bytes whole.owed) refusal.owed
  whole_refused text other whole (inr cut) = sound.whole_or_cut (bytes_in steps) text other whole.owed cut.owed

  module _ (IsOut : List ReadStep → Type 0) (at : (front : List ReadStep) → IsOut front → IsAtLimit bounds front) where
    whole_limit : (text other : List ℕ) → OwesWhole duty steps text → OwesAtLimit duty IsOut steps other → ⊥
    whole_limit text other whole limit = free_of bounds steps limit.front limit.rest whole.free limit.split (at limit.front limit.reached.0)

    refused_limit : (text other : List ℕ) → OwesRefused duty steps text → OwesAtLimit duty IsOut steps other → ⊥
    refused_limit text other (inl refusal) limit =
        elim (fronts_of refusal.front limit.front refusal.rest limit.rest (sym refusal.split ∙ limit.split)) [
          | shorter x part is ↦ refusal.free limit.front x part is (at limit.front limit.reached.0)
          | longer part is ↦
              let bytes : bytes_in limit.front ≡ bytes_in refusal.front ++ bytes_in part = ap bytes_in is ∙ bytes_in-append refusal.front part in
              sound.so_far_or_refused (bytes_in refusal.front) (bytes_in part) other text (subst (λ (b : List ℕ). duty.SoFar b other) bytes limit.owed) refusal.owed
        ]
    refused_limit text other (inr cut) limit = free_of bounds steps limit.front limit.rest cut.free limit.split (at limit.front limit.reached.0)

  idle_bytes : (text other : List ℕ) → OwesAtLimit duty (IsIdleOut bounds) steps text → OwesAtLimit duty (IsBytesOut bounds) steps other → ⊥
  idle_bytes text other idle out =
      idle_or_bytes idle.front out.front idle.rest out.rest (sym idle.split ∙ out.split) idle.reached.1 out.reached.1 idle.reached.0 out.reached.0

  module _ (taken : List ReadStep) (given text : List ℕ) where
    whole_ends : (e : End) → EndsWith duty taken steps given e → OwesWhole duty steps text → EndsAs end.Done e
    whole_ends end.Done ends whole = inl refl
    whole_ends end.Refused ends whole = absurd (whole_refused text given whole ends.0)
    whole_ends end.IdleOut ends whole = absurd (whole_limit (IsIdleOut bounds) (λ front out. inl out) text given whole ends.0)
    whole_ends end.BytesOut ends whole = absurd (whole_limit (IsBytesOut bounds) (λ front out. inr out) text given whole ends.0)
    whole_ends end.ReadFault ends whole = inr tt
    whole_ends end.WriteFault ends whole = inr tt
    whole_ends end.Memory ends whole = inr tt

    refused_ends : (e : End) → EndsWith duty taken steps given e → OwesRefused duty steps text → EndsAs end.Refused e
    refused_ends end.Done ends refused = absurd (whole_refused given text ends.0 refused)
    refused_ends end.Refused ends refused = inl refl
    refused_ends end.IdleOut ends refused = absurd (refused_limit (IsIdleOut bounds) (λ front out. inl out) text given refused ends.0)
    refused_ends end.BytesOut ends refused = absurd (refused_limit (IsBytesOut bounds) (λ front out. inr out) text given refused ends.0)
    refused_ends end.ReadFault ends refused = inr tt
    refused_ends end.WriteFault ends refused = inr tt
    refused_ends end.Memory ends refused = inr tt

    idle_ends : (e : End) → EndsWith duty taken steps given e → OwesAtLimit duty (IsIdleOut bounds) steps text → EndsAs end.IdleOut e
    idle_ends end.Done ends limit = absurd (whole_limit (IsIdleOut bounds) (λ front out. inl out) given text ends.0 limit)
    idle_ends end.Refused ends limit = absurd (refused_limit (IsIdleOut bounds) (λ front out. inl out) given text ends.0 limit)
    idle_ends end.IdleOut ends limit = inl refl
    idle_ends end.BytesOut ends limit = absurd (idle_bytes text given limit ends.0)
    idle_ends end.ReadFault ends limit = inr tt
    idle_ends end.WriteFault ends limit = inr tt
    idle_ends end.Memory ends limit = inr tt

    bytes_ends : (e : End) → EndsWith duty taken steps given e → OwesAtLimit duty (IsBytesOut bounds) steps text → EndsAs end.BytesOut e
    bytes_ends end.Done ends limit = absurd (whole_limit (IsBytesOut bounds) (λ front out. inr out) given text ends.0 limit)
    bytes_ends end.Refused ends limit = absurd (refused_limit (IsBytesOut bounds) (λ front out. inr out) given text ends.0 limit)
    bytes_ends end.IdleOut ends limit = absurd (idle_bytes given text ends.0 limit)
    bytes_ends end.BytesOut ends limit = inl refl
    bytes_ends end.ReadFault ends limit = inr tt
    bytes_ends end.WriteFault ends limit = inr tt
    bytes_ends end.Memory ends limit = inr tt

  pub one_end : (taken : List ReadStep) (given : List ℕ) (e : End) → EndsWith duty taken steps given e → DecideEnd duty steps e
  one_end taken given e ends = record {
    whole = λ text. whole_ends taken given text e ends;
    refused = λ text. refused_ends taken given text e ends;
    idle_out = λ text. idle_ends taken given text e ends;
    bytes_out = λ text. bytes_ends taken given text e ends;
  }
