-- What contracts say about the picture variables of a session.
use Rattle.std.specs.Prelude.{◌≡◌, ℕ, List}
use Rattle.logbook.specs.Pages.{Book}
use Rattle.mf_live.specs.Writers as writers
use Rattle.mf_desk_session.specs.declared.variables.Variables.{Variables}
use Rattle.mf_desk_session.specs.Changes.{OpOn, pictures_after_publish, pictures_unless_refused, operation_text, published_line}
use Rattle.mf_desk_session.specs.Pictures.{Pictures}

-- the pictures: what `currentpicture` has accepted, what of that is published, and the registers
abbrev pub pictures : Variables → Pictures
pictures v = record { accepted = writers.accepted_list v.writer; published = writers.published_list v.writer; registers = v.registers }

-- which live picture `currentpicture` is
abbrev pub identity : Variables → Book
identity v = writers.identity v.writer

-- the greatest number of operations that `currentpicture` accepts
abbrev pub max_ops : Variables → ℕ
max_ops v = writers.max_ops v.writer

-- an operation on a picture has been performed, or refused, and has printed this
abbrev pub OperatesOn : Variables → OpOn → List ℕ → Variables → Type 0
OperatesOn before o text after =
    (text ≡ operation_text (max_ops before) (pictures before) o) × (pictures after ≡ pictures_unless_refused (max_ops before) (pictures before) o)

-- everything that was accepted is published, and its revision is printed
abbrev pub PublishesAll : Variables → List ℕ → Variables → Type 0
PublishesAll before text after = (text ≡ published_line (pictures before)) × (pictures after ≡ pictures_after_publish (pictures before))
