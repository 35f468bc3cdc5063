-- What an easel has drawn on a screen.
use Rattle.std.specs.Prelude.{◌≡◌, ◌<◌, ℕ, All, IfSome, List, [], ◌∷◌, ◌++◌, None, Option, Some}
use Rattle.std.specs.Io.KnownBytes.{Appends}
use Rattle.mf_base.specs.Messages.{Receipt, receipt}
use Rattle.mf_live.specs.Entries.{Entry, picture_at, revision_at}
use Rattle.mf_live.specs.Prefixes.{IsWholePrefix}
use Rattle.mf_view.specs.Easels.{Manner, drawing, looked_at_list, manner_of, revision_of}
use Rattle.mf_view.specs.declared.easel.Easel.{Easel}

-- the revision of the last of these lists, which are given from the last to the first
abbrev pub last_revision : List (List Entry) → Option ℕ
last_revision [] = None
last_revision (L ∷ earlier) = Some (revision_at L)

-- the frames of the pictures of these lists, each drawn over the one before it
abbrev pub frames : Manner → List (List Entry) → List ℕ
frames m [] = []
frames m (L ∷ earlier) = frames m earlier ++ drawing m (last_revision earlier) L

-- the revision of each of these lists is above that of the one before it
abbrev pub Rise : List (List Entry) → Type 0
Rise [] = Unit {0}
Rise (L ∷ earlier) = IfSome (last_revision earlier) (λ before. before < revision_at L) × Rise earlier

-- these lists are whole prefixes of this one, with rising revisions
pub record AreLooks (whole : List Entry) (lists : List (List Entry)) : Type 0 where
  pub rise : Rise lists
  pub seen : All (λ L. IsWholePrefix L whole) lists

-- an easel has drawn frames of what its viewer has looked at, and nothing else went to its screen
pub record HasDrawn (easel : Easel) (screen : Receipt) : Type 0 where
  pub lists : List (List Entry)
  pub text : Appends screen.held screen.holds (frames (manner_of easel) lists)
  pub looks : AreLooks (looked_at_list easel) lists
  pub last : revision_of easel ≡ last_revision lists

-- a screen has got frames of what a viewer may have looked at when it has looked at a list, and the last is that of the picture of the list
pub record ShowsLast (manner : Manner) (whole : List Entry) (screen : Receipt) : Type 0 where
  pub last : List Entry
  pub earlier : List (List Entry)
  pub text : Appends screen.held screen.holds (frames manner (last ∷ earlier))
  pub looks : AreLooks whole (last ∷ earlier)
  pub revision : revision_at last ≡ revision_at whole
  pub picture : picture_at last ≡ picture_at whole

-- whatever a screen held at first: where all that it had received before a call was such, all that it has received after it is this
abbrev pub Continues : Receipt → (Receipt → Type 0) → (Receipt → Type 0) → Type 0
Continues screen WasSuch IsSuch = (first : Option (List ℕ)) → WasSuch (receipt first screen.held) → IsSuch (receipt first screen.holds)

-- the easel has drawn more, whatever it had drawn before
abbrev pub DrawsMore : Easel → Easel → Receipt → Type 0
DrawsMore before after screen = Continues screen (HasDrawn before) (HasDrawn after)
