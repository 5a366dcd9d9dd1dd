-- What holds of each session of lines that is over.
use Rattle.std.proofs.Common.{◌≡◌, ℕ, ◌||◌, Bool, true, false, List, [], ◌∷◌, ◌++◌, Option, Some, length, refl, sym, ap, subst, ◌∙◌, append_assoc, append-nil, inl, inr, arith}
use Rattle.std.proofs.lemmas.List.{append_cancel_left}
use Rattle.std.specs.List.{AllByRecursion}
use Rattle.pool_io.specs.declared.turn.Turn.{Turn}
use Rattle.pool_io.specs.Steps.{BringsSteps, IsBytesOut, IsFreeBefore, IsIdleOut, ReadStep, bytes_in, steps_of}
use Rattle.pool_io.proofs.Stepping.{bytes_in-append}
use Rattle.v1_lines.specs.Lines.{IsLineText, line_bytes}
use Rattle.v1_lines.specs.Reading.{FindsLines}
use Rattle.v1_lines.proofs.Streams.{lines_unique}
use Rattle.line_turns.specs.Hearing.{BeginsLongLine}
use Rattle.v2_sessions.specs.Good.{IsGoodEnd}
use Rattle.v2_sessions.specs.Running.{TakesAll}
use Rattle.session_steps.specs.declared.manner.Manner.{Manner}
use Rattle.session_steps.specs.declared.ends.SessionEnd.{SessionEnd}
use Rattle.session_steps.specs.declared.ends.SessionEnd.TheVariants as end
use Rattle.v2_sessions.specs.Ends.{IsWellEnded, has_missed, has_turned_away, has_unkept, has_unwritten, is_unwritten, session_bounds}
use Rattle.v2_sessions.proofs.Standing.{EndShows}
use Rattle.v2_sessions.proofs.Whole.{neither}
use Rattle.v1_translate.specs.State.{Terms}
use Rattle.v1_sessions.specs.Laws.{lines_in}
use Rattle.v1_sessions.specs.States.{LineState, new_line_state}
use Rattle.v1_sessions.specs.Steps.{Called, Ended, Follows, Heard, Idled, LineStep, Missed, Overran, Spent, Starved, Took, after_step, calls_of, has_ended, turns_of}
use Rattle.v1_sessions.proofs.Whole.{taken_is_heard}
use Rattle.v1_sessions.specs.Ends.{AreGoodLines, AreUnhinderedLines, ComesToEnd, IsCutLine, LineEndShows, has_missed_turn, has_unwritten_line}
use Rattle.v1_sessions.specs.LimitLaws.{GoodLinesEndWell, LineEndsHaveCauses, LineSessionsKeepLimits}
use Rattle.v1_sessions.proofs.Standing.{outer_calls, outer_ends_show, outer_steps, outer_turns, session_stands}
use Rattle.v1_sessions.proofs.Unheard.{Leaves, session_leaves}

outer_missed : (xs : List LineStep) → has_missed (outer_steps xs) ≡ has_missed_turn xs
outer_missed [] = refl
outer_missed (Missed ∷ xs) = refl
outer_missed (Took bytes ∷ xs) = outer_missed xs
outer_missed (Idled ∷ xs) = outer_missed xs
outer_missed (Heard line rest wish put ∷ xs) = outer_missed xs
outer_missed (Overran ∷ xs) = outer_missed xs
outer_missed (Ended ∷ xs) = outer_missed xs
outer_missed (Starved ∷ xs) = outer_missed xs
outer_missed (Spent ∷ xs) = outer_missed xs
outer_missed (Called call put ∷ xs) = outer_missed xs

outer_unwritten : (xs : List LineStep) → has_unwritten (outer_steps xs) ≡ has_unwritten_line xs
outer_unwritten [] = refl
outer_unwritten (Missed ∷ xs) = outer_unwritten xs
outer_unwritten (Took bytes ∷ xs) = outer_unwritten xs
outer_unwritten (Idled ∷ xs) = outer_unwritten xs
outer_unwritten (Heard line rest wish put ∷ xs) = ap (λ b. is_unwritten put.fault || b) (outer_unwritten xs)
outer_unwritten (Overran ∷ xs) = outer_unwritten xs
outer_unwritten (Ended ∷ xs) = outer_unwritten xs
outer_unwritten (Starved ∷ xs) = outer_unwritten xs
outer_unwritten (Spent ∷ xs) = outer_unwritten xs
outer_unwritten (Called call put ∷ xs) = ap (λ b. is_unwritten put.fault || b) (outer_unwritten xs)

pub limits_kept : LineSessionsKeepLimits
limits_kept worker terms manner steps last positive follows =
    subst (IsFreeBefore (session_bounds manner.idle_turns)) (outer_turns steps) (session_stands worker terms manner steps last positive follows).before

-- an end shows what the same of frames does, and what isn't heard
shows_both : (idle_turns : ℕ) (steps : List LineStep) (unheard : List ℕ) (reason : SessionEnd) → EndShows (session_bounds idle_turns) (outer_steps steps) reason
    → Leaves steps unheard reason → LineEndShows idle_turns steps unheard reason
shows_both idle_turns steps unheard end.IdleOut shows leaves = subst (IsIdleOut (session_bounds idle_turns)) (outer_turns steps) shows
shows_both idle_turns steps unheard end.BytesOut shows leaves = subst (IsBytesOut (session_bounds idle_turns)) (outer_turns steps) shows
shows_both idle_turns steps unheard end.PoolFull shows leaves = ap has_turned_away (sym (outer_calls steps)) ∙ shows
shows_both idle_turns steps unheard end.LedgerFault shows leaves = ap has_unkept (sym (outer_calls steps)) ∙ shows
shows_both idle_turns steps unheard end.ReadFault shows leaves = sym (outer_missed steps) ∙ shows
shows_both idle_turns steps unheard end.WriteFault shows leaves = sym (outer_unwritten steps) ∙ shows
shows_both idle_turns steps unheard (end.CutFrame count) shows leaves = leaves
shows_both idle_turns steps unheard end.LineTooLong shows leaves = leaves
shows_both idle_turns steps unheard end.Done shows leaves = leaves
shows_both idle_turns steps unheard end.Memory shows leaves = tt
shows_both idle_turns steps unheard (end.TooLong len) shows leaves = leaves
shows_both idle_turns steps unheard end.BadSetup shows leaves = leaves
shows_both idle_turns steps unheard (end.BadMessage kind) shows leaves = leaves

pub ends_have_causes : LineEndsHaveCauses
ends_have_causes worker terms manner steps reason positive comes =
    shows_both manner.idle_turns steps comes.last.pool.unmet reason
    (outer_ends_show worker terms manner steps comes.last reason positive comes.follows comes.over)
    (session_leaves worker terms manner steps comes.last reason comes.follows comes.over)

-- ---- good lines

-- each line that was heard is one
heard_texts : (worker : ℕ) (terms : Terms) (s t : LineState) (xs : List LineStep) → Follows worker terms s xs t → AllByRecursion IsLineText (lines_in xs)
heard_texts worker terms s t [] follows = tt
heard_texts worker terms s t (Heard line rest wish put ∷ xs) follows =
    (follows.0.text, heard_texts worker terms (after_step terms s (Heard line rest wish put)) t xs follows.1)
heard_texts worker terms s t (Took bytes ∷ xs) follows = heard_texts worker terms (after_step terms s (Took bytes)) t xs follows.1
heard_texts worker terms s t (Idled ∷ xs) follows = heard_texts worker terms (after_step terms s Idled) t xs follows.1
heard_texts worker terms s t (Overran ∷ xs) follows = heard_texts worker terms (after_step terms s Overran) t xs follows.1
heard_texts worker terms s t (Ended ∷ xs) follows = heard_texts worker terms (after_step terms s Ended) t xs follows.1
heard_texts worker terms s t (Missed ∷ xs) follows = heard_texts worker terms (after_step terms s Missed) t xs follows.1
heard_texts worker terms s t (Starved ∷ xs) follows = heard_texts worker terms (after_step terms s Starved) t xs follows.1
heard_texts worker terms s t (Spent ∷ xs) follows = heard_texts worker terms (after_step terms s Spent) t xs follows.1
heard_texts worker terms s t (Called call put ∷ xs) follows = heard_texts worker terms (after_step terms s (Called call put)) t xs follows.1

-- in a stream of whole lines, nothing else is found
module _ (lines heard : List (List ℕ)) (unheard left : List ℕ) (each : AllByRecursion IsLineText lines) (texts : AllByRecursion IsLineText heard)
    (whole : (line_bytes heard ++ unheard) ++ left ≡ line_bytes lines) where
  all_found : FindsLines (line_bytes lines) lines []
  all_found = record {
    unread = [];
    whole = sym (append-nil (line_bytes lines));
    each = each;
    through = inl (record { one = refl; short = omega arith }, refl);
  }

  no_long_line : BeginsLongLine unheard → ⊥
  no_long_line begins =
      let found : FindsLines (line_bytes lines) heard begins.front = record {
        unread = begins.more ++ left;
        whole = sym whole ∙ append_assoc (line_bytes heard) unheard left
            ∙ ap (λ l. line_bytes heard ++ l) (ap (λ l. l ++ left) begins.whole ∙ append_assoc begins.front begins.more left);
        each = texts;
        through = inr begins.long;
      } in
      let none : begins.front ≡ [] = (lines_unique (line_bytes lines) heard lines begins.front [] found all_found).1 in
      omega (arith, ap length none, begins.long.long)

  no_rest : IsLineText unheard → left ≡ [] → unheard ≡ []
  no_rest text none =
      let found : FindsLines (line_bytes lines) heard unheard = record {
        unread = [];
        whole = sym whole ∙ append_assoc (line_bytes heard) unheard left ∙ ap (λ l. line_bytes heard ++ (unheard ++ l)) none;
        each = texts;
        through = inl (text, refl);
      } in
      (lines_unique (line_bytes lines) heard lines unheard [] found all_found).1

-- where the input ended, all that was told was taken
nothing_left : (ended : Bool) (told left : List Turn) (taken : List ReadStep) → ended ≡ true → steps_of told ≡ taken ++ steps_of left
    → TakesAll ended (Some told) taken → bytes_in (steps_of left) ≡ []
nothing_left true told left taken is whole all =
    ap bytes_in (append_cancel_left taken (steps_of left) [] (sym whole ∙ all ∙ sym (append-nil taken)))
nothing_left false told left taken is whole all = cc

-- no end that blames the input is left
blames_none : (steps : List LineStep) (unheard : List ℕ) (reason : SessionEnd) → Leaves steps unheard reason → (BeginsLongLine unheard → ⊥)
    → ((count : ℕ) → IsCutLine steps unheard count → ⊥) → IsGoodEnd reason
blames_none steps unheard (end.CutFrame count) leaves long cut = cut count leaves
blames_none steps unheard end.LineTooLong leaves long cut = long leaves
blames_none steps unheard (end.TooLong len) leaves long cut = leaves
blames_none steps unheard end.BadSetup leaves long cut = leaves
blames_none steps unheard (end.BadMessage kind) leaves long cut = leaves
blames_none steps unheard end.Done leaves long cut = tt
blames_none steps unheard end.IdleOut leaves long cut = tt
blames_none steps unheard end.BytesOut leaves long cut = tt
blames_none steps unheard end.PoolFull leaves long cut = tt
blames_none steps unheard end.ReadFault leaves long cut = tt
blames_none steps unheard end.WriteFault leaves long cut = tt
blames_none steps unheard end.LedgerFault leaves long cut = tt
blames_none steps unheard end.Memory leaves long cut = tt

-- good lines lead to no end that blames them
pub lines_blame_none : (worker : ℕ) (terms : Terms) (manner : Manner) (steps : List LineStep) (reason : SessionEnd) (told : List Turn) (left : Option (List Turn))
    → ComesToEnd worker terms manner steps reason → BringsSteps (Some told) left (turns_of steps) → TakesAll (has_ended steps) (Some told) (turns_of steps)
    → AreGoodLines told → IsGoodEnd reason
lines_blame_none worker terms manner steps reason told left comes brought all input =
    let unheard = comes.last.pool.unmet in
    let over : List ℕ = bytes_in (steps_of brought.0) in
    let heard = lines_in steps in
    let texts = heard_texts worker terms (new_line_state manner) comes.last steps comes.follows in
    let taken : bytes_in (turns_of steps) ≡ line_bytes heard ++ unheard = taken_is_heard worker terms manner steps comes.last comes.follows in
    let whole : (line_bytes heard ++ unheard) ++ over ≡ line_bytes input.lines =
    ap (λ l. l ++ over) (sym taken) ∙ sym (ap bytes_in brought.2 ∙ bytes_in-append (turns_of steps) (steps_of brought.0)) ∙ input.whole in
    blames_none steps unheard reason (session_leaves worker terms manner steps comes.last reason comes.follows comes.over)
    (no_long_line input.lines heard unheard over input.each texts whole)
    (λ count cut.
    let none : unheard ≡ [] = no_rest input.lines heard unheard over input.each texts whole cut.text
    (nothing_left (has_ended steps) told brought.0 (turns_of steps) cut.ended brought.2 all) in
    omega (arith, ap length none, cut.counted, cut.some))

-- no end but these two is left
ends_well : (idle_turns : ℕ) (steps : List LineStep) (unheard : List ℕ) (reason : SessionEnd) → LineEndShows idle_turns steps unheard reason
    → AreUnhinderedLines idle_turns steps → IsGoodEnd reason → IsWellEnded reason
ends_well idle_turns steps unheard end.Done shows free good = tt
ends_well idle_turns steps unheard end.Memory shows free good = tt
ends_well idle_turns steps unheard (end.CutFrame count) shows free good = good
ends_well idle_turns steps unheard end.LineTooLong shows free good = good
ends_well idle_turns steps unheard (end.TooLong len) shows free good = good
ends_well idle_turns steps unheard end.BadSetup shows free good = good
ends_well idle_turns steps unheard (end.BadMessage kind) shows free good = good
ends_well idle_turns steps unheard end.IdleOut shows free good = free.within (inl shows)
ends_well idle_turns steps unheard end.BytesOut shows free good = free.within (inr shows)
ends_well idle_turns steps unheard end.PoolFull shows free good = neither (has_turned_away (calls_of steps)) shows free.let_in
ends_well idle_turns steps unheard end.LedgerFault shows free good = neither (has_unkept (calls_of steps)) shows free.kept
ends_well idle_turns steps unheard end.ReadFault shows free good = neither (has_missed_turn steps) shows free.read
ends_well idle_turns steps unheard end.WriteFault shows free good = neither (has_unwritten_line steps) shows free.written

pub good_lines_well : GoodLinesEndWell
good_lines_well worker terms manner steps reason told left positive comes brought all input free =
    ends_well manner.idle_turns steps comes.last.pool.unmet reason (ends_have_causes worker terms manner steps reason positive comes) free
    (lines_blame_none worker terms manner steps reason told left comes brought all input)
