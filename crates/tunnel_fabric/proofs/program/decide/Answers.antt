use Rattle.std.proofs.Common.{rules}
use Rattle.tunnel_fabric.proofs.FabricEndings.{refused_decided, refused_ready}
use Rattle.tunnel_fabric.proofs.program.decide.Goals as goal

-- The line is that on the first fault of the input.
pub returns-in-Err : goal.returns-in-Err
returns-in-Err c = record {
  decides = refused_decided c.args.input.now c.in-Err.fault c.requires (c.in-Err.ensures.cases (search rules)) c.refused.result c.refused.ensures;
  ready = refused_ready c.in-Err.fault c.refused.result c.refused.ensures;
}
