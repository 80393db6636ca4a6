-- The payload around the response of a device.
use Rattle.std.proofs.Common.{◌≡◌, ℕ, suc, ◌≤◌, [], ◌++◌, length, refl, ap, arith, append-nil}
use Rattle.dcd_base.specs.Layouts.{spelling}
use Rattle.cci_codec.specs.{declared.messages.Response.Response, Messages.response_bytes}
use Rattle.tunnel_fabric.specs.Tunnels.{wrapped_fields}

-- around a short response the payload is short
pub wrapped_short : (device : ℕ) (s : Response) → length s.payload ≤ 2048 → length (spelling (wrapped_fields device s)) ≤ 2064
unfolding response_bytes
wrapped_short device s short =
    let whole : length (spelling (wrapped_fields device s)) ≡ suc (suc (suc (suc (suc (suc (suc (suc (suc (suc (suc (suc (suc (suc (suc (suc (length ((s.payload ++ []) ++ []))))))))))))))))) = refl in
    omega (arith, whole, short, ap length (append-nil (s.payload ++ [])), ap length (append-nil s.payload))
