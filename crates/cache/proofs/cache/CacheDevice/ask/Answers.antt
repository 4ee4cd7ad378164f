use Rattle.std.proofs.Common.{length}
use Rattle.device.specs.Answer.{answered, question}
use Rattle.device.proofs.Layers.{layer-answer}
use Rattle.device.proofs.Runs.{returned-is, filled-is}
use Rattle.layers.specs.Cache.{cache_layer}
use Rattle.cache.specs.Layer.{below_of, table}
use Rattle.cache.proofs.cache.CacheDevice.ask.Goals as goal

pub returns-clause-answer : goal.returns-clause-answer
returns-clause-answer g c =
    let d = c.args.self.now in
    let q = question c.args.area c.args.block c.args.buf.now in
    returned-is _ c.answer.result c.answer.new.buf
    (layer-answer g.D.Device.meaning g.D.Device.moves g.met.D.Device.onward cache_layer (table d) (below_of d) q (answered c.answer.result c.answer.new.buf) (table c.answer.new.self) (below_of c.answer.new.self) c.answer.ensures.run)

pub returns-clause-bytes : goal.returns-clause-bytes
returns-clause-bytes g c =
    let d = c.args.self.now in
    let q = question c.args.area c.args.block c.args.buf.now in
    filled-is (length c.args.buf.now) _ c.answer.result c.answer.new.buf
    (layer-answer g.D.Device.meaning g.D.Device.moves g.met.D.Device.onward cache_layer (table d) (below_of d) q (answered c.answer.result c.answer.new.buf) (table c.answer.new.self) (below_of c.answer.new.self) c.answer.ensures.run) c.answer.ensures.zeros
