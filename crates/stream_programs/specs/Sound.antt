-- The duty gives bytes one verdict.
use Rattle.std.proofs.Common.{◌≡◌, ℕ, List, [], ◌++◌, length, refl, sym, ap, ◌∙◌, arith, length-append}
use Rattle.stream_commands.specs.Duties.{IsNothing, IsSoundDuty}
use Rattle.stream_programs.specs.Listing.{IsPartialFrame, IsFlawed}
use Rattle.stream_programs.specs.Duty.{ListsGood, ListsFlaw, IsCutFrame, listing_duty}
use Rattle.stream_programs.specs.OneListing.{BeginsNoGoodFrame, ListsFrames-none, ListsFrames-more, partial_none, one_listing, none_empty, none_partial, none_flawed, flawed_long, partial_not_flawed}

-- what is refused is no other listing
other_rest : (bytes more text other : List ℕ) (IsKind : List ℕ → Type 0)
    → ((rest : List ℕ) → IsKind rest → BeginsNoGoodFrame rest)
    → (owed : ListsGood IsKind (bytes ++ more) text) (refused : ListsFlaw IsFlawed bytes other)
    → owed.rest ≡ refused.rest ++ more
other_rest bytes more text other IsKind none owed refused =
    (one_listing (bytes ++ more) owed.frames refused.frames owed.rest (refused.rest ++ more)
    owed.lists
    (ListsFrames-more bytes refused.frames refused.rest more refused.lists)
    (none owed.rest owed.is_kind) (none_flawed refused.flaw refused.rest more
    refused.has_flaw)).1

nothing_none : (rest : List ℕ) → IsNothing rest → BeginsNoGoodFrame rest
nothing_none rest nothing = rw nothing none_empty

whole_or_refused : (bytes more text other : List ℕ) → ListsGood IsNothing (bytes ++ more) text
    → ListsFlaw IsFlawed bytes other → ⊥
whole_or_refused bytes more text other owed refused =
    let same = other_rest bytes more text other IsNothing nothing_none owed refused in
    omega (
      arith,
      ap length (sym owed.is_kind ∙ same),
      length-append refused.rest more,
      flawed_long
          refused.flaw refused.rest refused.has_flaw,
    )

so_far_or_refused : (bytes more text other : List ℕ)
    → ListsGood IsPartialFrame (bytes ++ more) text → ListsFlaw IsFlawed bytes other → ⊥
so_far_or_refused bytes more text other owed refused =
    partial_not_flawed refused.flaw owed.rest refused.rest more owed.is_kind refused.has_flaw
    (other_rest bytes more text other IsPartialFrame none_partial owed refused)

whole_or_cut : (bytes text other : List ℕ) → ListsGood IsNothing bytes text
    → ListsFlaw IsCutFrame bytes other → ⊥
whole_or_cut bytes text other whole cut =
    let same = one_listing bytes whole.frames cut.frames whole.rest cut.rest whole.lists cut.lists
    (nothing_none whole.rest whole.is_kind) (none_partial cut.rest cut.has_flaw.partial) in
    cut.has_flaw.some (sym same.1 ∙ whole.is_kind)

pub listing_duty_is_sound : IsSoundDuty listing_duty
listing_duty_is_sound = record {
  nothing = record {
    frames = [];
    rest = [];
    lists = ListsFrames-none;
    is_kind = partial_none;
    listed = refl;
  };
  whole_or_refused = whole_or_refused;
  so_far_or_refused = so_far_or_refused;
  whole_or_cut = whole_or_cut;
}
