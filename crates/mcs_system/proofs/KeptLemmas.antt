-- What is kept of one context, and of one rule, under the names by which crates above cite it.
pub use Rattle.mcs_base.proofs.Lists.{image_at_range as at_place, same_image_at as at_same_place, length_same_images as as_many}
pub use Rattle.std.proofs.lemmas.List.FromFn.{length-range_with_len as length-range}
