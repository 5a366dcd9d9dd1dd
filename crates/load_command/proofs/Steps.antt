-- One opening more, and one step more.
use Rattle.std.proofs.Common.{◌≡◌, ℕ, suc, ◌+◌, List, ◌++◌, ap, arith, append_assoc, refl, sym, ◌∙◌}
use Rattle.rand_pcg.specs.Lcg.{Lcg}
use Rattle.rand_pcg.specs.Pcg.{pcg32}
use Rattle.load_command.specs.Frames.{generator_after, news_frames, opening_frame, openings_frames, random_at, share_frame, step_frames, steps_frames, templates_at}

next : (n : ℕ) → n + 1 ≡ suc n
next n = omega arith

openings-next : (n : ℕ) → openings_frames n ++ opening_frame n ≡ openings_frames (suc n)
unfolding openings_frames
openings-next n = refl

steps-next : (seed n : ℕ) → steps_frames seed n ++ step_frames seed n ≡ steps_frames seed (suc n)
unfolding steps_frames
steps-next seed n = refl

generator-next : (seed n : ℕ) → (pcg32 (generator_after seed n)).1 ≡ generator_after seed (suc n)
unfolding generator_after
generator-next seed n = refl

pub opened-more : (front before after : List ℕ) (n : ℕ) → before ≡ front ++ openings_frames n → after ≡ before ++ opening_frame n → after ≡ front ++ openings_frames (n + 1)
opened-more front before after n was is =
    is ∙ ap (λ l. l ++ opening_frame n) was ∙ append_assoc front (openings_frames n) (opening_frame n) ∙ ap (λ l. front ++ l) (openings-next n)
    ∙ ap (λ m. front ++ openings_frames m) (sym (next n))

pub stepped-more : (front before after : List ℕ) (seed n random : ℕ) → before ≡ front ++ steps_frames seed n → random ≡ random_at seed n
    → after ≡ before ++ (news_frames n ++ share_frame n (templates_at n) random) → after ≡ front ++ steps_frames seed (n + 1)
stepped-more front before after seed n random was drawn is =
    is ∙ ap (λ r. before ++ (news_frames n ++ share_frame n (templates_at n) r)) drawn ∙ ap (λ l. l ++ step_frames seed n) was
    ∙ append_assoc front (steps_frames seed n) (step_frames seed n) ∙ ap (λ l. front ++ l) (steps-next seed n) ∙ ap (λ m. front ++ steps_frames seed m) (sym (next n))

pub drawn-more : (seed n : ℕ) (before after : Lcg) → before ≡ generator_after seed n → after ≡ (pcg32 before).1 → after ≡ generator_after seed (n + 1)
drawn-more seed n before after was is =
    is ∙ ap (λ g. (pcg32 g).1) was ∙ generator-next seed n ∙ ap (generator_after seed) (sym (next n))
