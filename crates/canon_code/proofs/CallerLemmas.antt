-- What the crates above cite: lemmas on codes and frames that speak of public definitions alone.
-- ---- that half-edges are a triangulation has one proof
pub use Rattle.canon_code.proofs.Merely.{positive_prop, triangulation_prop}
-- ---- codes: a triangulation has one, its images have the same, and the canonical triangulation of a code is one with that code
pub use Rattle.canon_code.proofs.Codes.{code_once, code_carried, canonical_code}
pub use Rattle.canon_code.proofs.Canonical.{canonical_valid, canonical_serial, framed}
pub use Rattle.canon_code.proofs.CodeExists.{some_code}
-- ---- frames: which matrix takes a frame to a frame is one, and it takes the canonical triangulation to the one that the start is of
pub use Rattle.canon_code.proofs.Carriers.{one_carrier, image_of_frame}
