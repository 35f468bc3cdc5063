-- The definitions that clauses cite, by the short names of the crates.
pub use Rattle.logbook.specs.Pages as Pages
pub use Rattle.mf_desk.specs as Desk
pub use Rattle.mf_desk_session.specs as Session
pub use Rattle.mf_desk_watch.specs as Watch
pub use Rattle.mf_geom.specs as Geom
pub use Rattle.mf_gf.specs as Gf
pub use Rattle.mf_live.specs as Live
pub use Rattle.mf_ops.specs as Ops
pub use Rattle.mf_rows.specs as Rows
pub use Rattle.mf_rows_edges.specs as Edges
pub use Rattle.mf_rows_strips.specs as Strips
pub use Rattle.mf_text.specs as Text
pub use Rattle.mf_text_show.specs as Show
pub use Rattle.mf_view_frame.specs as Frame
pub use Rattle.mf_view_image.specs as Image
