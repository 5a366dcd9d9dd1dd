use Rattle.std.proofs.Common.{◌-◌, ◌<◌, ◌≤◌, get_or, length, subst, sym, ◌∙◌}
use Rattle.std.proofs.lemmas.Bool.{false≢true}
use Rattle.std.proofs.lemmas.List.Sorted.{IsNonDecreasingBy-push}
use Rattle.std.specs.List.Sorted.{IsNonDecreasingBy}
use Rattle.channels.specs.declared.settings.Setting.{Setting}
use Rattle.channels.proofs.settings.Settings.set.Goals as goal
use Rattle.channels.proofs.settings.Settings.set.Goals.{then-self, else-self}

pub invariant_of-self : goal.invariant_of-self
invariant_of-self c =
    elim c.if-self.branch [
      | then-self w ↦ rw w.self-is (λ behind.
          c.forget_first.ensures.rising
          (subst (IsNonDecreasingBy (λ (setting : Setting). setting.at)) (sym c.push_reserved.ensures.items)
          (IsNonDecreasingBy-push (λ (setting : Setting). setting.at) c.forget_last.new.settings.items (record { at = c.args.at; class = c.args.class })
          (c.forget_last.ensures.rising (c.self.invariant w.if-self.true))
          (subst (λ l. (d : Setting) → 0 < length l → (get_or l (length l - 1) d).at ≤ c.args.at) w.deref.ensures.value
          (w.is_behind-self-inside.ensures behind)))))
      | else-self w ↦ rw w.self-is (λ rising. absurd (false≢true (sym w.if-self.false ∙ rising)))
    ]
