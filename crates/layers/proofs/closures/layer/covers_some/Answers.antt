use Rattle.std.proofs.Common.{ltb, sym, ◌∙◌, ap₂}
use Rattle.book.proofs.Covering.{covers_some}
use Rattle.layers.proofs.closures.layer.covers_some.Goals as goal

pub returns : goal.returns
returns c =
    ap₂ ltb c.max-first.ensures c.min.ensures ∙ sym (covers_some c.args.closure c.args.entry c.args.slots)
