-- Pictures after each weight is mapped by itself.
pub use Rattle.mf_rows_strips.specs.Changes.{mapped_weights}
